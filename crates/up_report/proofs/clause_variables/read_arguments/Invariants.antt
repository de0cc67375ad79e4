use Rattle.std.proofs.Common.{◌≡◌, drop}
use Rattle.fo_text.proofs.Loops.{with_front}
use Rattle.up_report.specs.ClauseReading.{arguments_at}
use Rattle.up_report.proofs.clause_variables.read_arguments.Given as goal

abbrev pub invariant-each : goal.invariant-each
invariant-each l = with_front l.variables (arguments_at l.sorts (drop l.i l.wanted) l.rest) ≡ arguments_at l.sorts l.wanted l.bytes
