use Rattle.std.proofs.Common.{take}
use Rattle.prop_core.specs.Formula.{value_of}
use Rattle.prop_cdcl.specs.Questions.{AreTrue}
use Rattle.prop_cdcl.proofs.assumptions.are_true.Given as goal

abbrev pub invariant-loop-lit : goal.invariant-loop-lit
invariant-loop-lit l = AreTrue (value_of l.values) (take l.lit-index l.lits)
