use Rattle.std.proofs.Common.{◌≡◌, ℕ, ◌<◌, get_or}
use Rattle.fo_core.specs.declared.formula.Formula.{Formula}
use Rattle.fo_core.specs.Sorted.{IsFormula}
use Rattle.fo_core.proofs.sorted.+is_formula.Given as goal

-- the members before this one are well-sorted
abbrev pub invariant-conjuncts : goal.invariant-conjuncts
invariant-conjuncts l = record {
  same : l.scope.items ≡ l.fn.scope.items;
  before : (k : ℕ) (d : Formula) → k < l.g-index → IsFormula l.sig l.copies (get_or l.g-items k d) l.fn.scope.items;
}

abbrev pub invariant-disjuncts : goal.invariant-disjuncts
invariant-disjuncts l = record {
  same : l.scope.items ≡ l.fn.scope.items;
  before : (k : ℕ) (d : Formula) → k < l.g-index → IsFormula l.sig l.copies (get_or l.g-items k d) l.fn.scope.items;
}
