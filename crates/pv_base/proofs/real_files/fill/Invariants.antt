use Rattle.std.proofs.Common.{◌≤◌, ◌-◌, length}
use Rattle.std.specs.Io.KnownBytes.{Consumes}
use Rattle.pv_base.proofs.real_files.fill.Given as goal

abbrev pub invariant-each : goal.invariant-each
invariant-each g l = record {
  within : length l.into.items ≤ 1048577;
  read : Consumes (g.S.Read.remaining l.fn.source) (g.S.Read.remaining l.source) l.into.items;
}

abbrev pub decreases-each : goal.decreases-each
decreases-each g l = 1048577 - length l.into.items
