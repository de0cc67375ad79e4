use Rattle.std.proofs.Common.{◌≤◌, ◌-◌, length, take}
use Rattle.std.specs.Io.KnownBytes.{Appends}
use Rattle.pv_base.proofs.real_sinks.write_on.Given as goal

abbrev pub invariant-each : goal.invariant-each
invariant-each g l = record {
  within : l.done ≤ length l.bytes;
  bytes : Appends (g.W.Write.contents l.fn.writer) (g.W.Write.contents l.writer) (take l.done l.bytes);
}

abbrev pub decreases-each : goal.decreases-each
decreases-each g l = length l.bytes - l.done
