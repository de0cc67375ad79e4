use Rattle.std.proofs.Common.{take}
use Rattle.prop_core.specs.Formula.{MeetsClause, value_of}
use Rattle.prop_core.proofs.clause.Clause.is_met.Given as goal

abbrev pub invariant-loop-lit : goal.invariant-loop-lit
invariant-loop-lit l = MeetsClause (value_of l.values) (take l.lit-index l.lit-items) → ⊥
