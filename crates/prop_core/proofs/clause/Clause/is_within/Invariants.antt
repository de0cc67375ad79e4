use Rattle.std.proofs.Common.{take}
use Rattle.prop_core.specs.Formula.{IsWithin}
use Rattle.prop_core.proofs.clause.Clause.is_within.Given as goal

abbrev pub invariant-loop-lit : goal.invariant-loop-lit
invariant-loop-lit l = IsWithin l.vars (take l.lit-index l.lit-items)
