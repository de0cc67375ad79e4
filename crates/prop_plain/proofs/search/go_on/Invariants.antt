use Rattle.prop_plain.specs.Search.{turns_left}
use Rattle.prop_plain.proofs.UnderWay.{IsUnderWay}
use Rattle.prop_plain.proofs.search.go_on.Given as goal

abbrev pub invariant-loop-refuted : goal.invariant-loop-refuted
invariant-loop-refuted l = IsUnderWay l.cnf.vars l.cnf.clauses l.checked l.path.items l.refuted

abbrev pub decreases-loop-refuted : goal.decreases-loop-refuted
decreases-loop-refuted l = turns_left l.cnf.vars l.path.items l.refuted
