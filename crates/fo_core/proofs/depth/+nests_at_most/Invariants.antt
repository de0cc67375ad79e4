use Rattle.std.proofs.Common.{ℕ, ◌<◌, ◌≤◌, get_or}
use Rattle.fo_core.specs.declared.formula.Formula.{Formula}
use Rattle.fo_core.specs.Sorted.{binders}
use Rattle.fo_core.proofs.depth.+nests_at_most.Given as goal

-- the members before this one nest at most so deep
abbrev pub invariant-conjuncts : goal.invariant-conjuncts
invariant-conjuncts l = (k : ℕ) (d : Formula) → k < l.g-index → binders (get_or l.g-items k d) ≤ l.depth

abbrev pub invariant-disjuncts : goal.invariant-disjuncts
invariant-disjuncts l = (k : ℕ) (d : Formula) → k < l.g-index → binders (get_or l.g-items k d) ≤ l.depth
