use Rattle.std.proofs.Common.{◌≡◌, ℕ, ◌<◌, [], get_or}
use Rattle.fo_core.specs.declared.formula.Formula.{Formula}
use Rattle.fo_core.specs.Sorted.{IsFormula}
use Rattle.fo_core.proofs.sorted.are_formulas.Given as goal

-- the formulas before this one are well-sorted
abbrev pub invariant-each : goal.invariant-each
invariant-each l = record {
  same : l.scope.items ≡ [];
  before : (k : ℕ) (d : Formula) → k < l.f-index → IsFormula l.sig l.copies (get_or l.fs k d) [];
}
