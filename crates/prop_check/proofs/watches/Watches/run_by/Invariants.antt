use Rattle.prop_check.proofs.Passing.{Extends}
use Rattle.prop_check.proofs.watches.Watches.run_by.Given as goal

abbrev pub invariant-loop-at : goal.invariant-loop-at
invariant-loop-at l = Extends l.clauses l.initial.values l.values
