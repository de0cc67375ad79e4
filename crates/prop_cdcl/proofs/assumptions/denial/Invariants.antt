use Rattle.prop_cdcl.specs.Questions.{OnlyDenies}
use Rattle.prop_cdcl.proofs.assumptions.denial.Given as goal

abbrev pub invariant-loop-lit : goal.invariant-loop-lit
invariant-loop-lit l = OnlyDenies l.assumptions l.clause
