use Rattle.std.proofs.Common.{◌≡◌, length}
use Rattle.updr_told.proofs.Prefixes.{IsDone}
use Rattle.updr_told.proofs.telling.put_lines.Given as goal

abbrev pub invariant-each : goal.invariant-each
invariant-each g l = record {
  done : IsDone l.text l.rest (g.O.Sink.written l.initial.out) (g.O.Sink.written l.out);
  quiet : g.O.Sink.faults l.out ≡ g.O.Sink.faults l.initial.out;
}

abbrev pub decreases-each : goal.decreases-each
decreases-each g l = length l.rest
