use Rattle.std.proofs.Common.{ℕ, List, ◌≡◌, ◌+◌, take}
use Rattle.fo_core.specs.Weights.{added, power, nodes}
use Rattle.fo_core.specs.QueryWeight.{cut}
use Rattle.fo_terms.proofs.weighing.+nodes.Given as goal

-- the node itself and those of the parts so far
abbrev pub invariant-conjuncts : goal.invariant-conjuncts
invariant-conjuncts l = (us : List ℕ) → l.above ≡ cut (power l.counts us) → l.sum ≡ cut (power l.counts us + added (λ g. nodes l.counts l.positive g us) (take l.g-index l.g-items))

abbrev pub invariant-disjuncts : goal.invariant-disjuncts
invariant-disjuncts l = (us : List ℕ) → l.above ≡ cut (power l.counts us) → l.sum ≡ cut (power l.counts us + added (λ g. nodes l.counts l.positive g us) (take l.g-index l.g-items))

abbrev pub decreases-nodes : goal.decreases-nodes
decreases-nodes l = goal.size-nodes l
