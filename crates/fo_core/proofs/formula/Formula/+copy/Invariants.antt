use Rattle.std.proofs.Common.{◌≡◌, take}
use Rattle.fo_core.proofs.formula.Formula.+copy.Given as goal

abbrev pub invariant-conjuncts : goal.invariant-conjuncts
invariant-conjuncts l = l.copies ≡ take l.g-index l.g-items

abbrev pub invariant-disjuncts : goal.invariant-disjuncts
invariant-disjuncts l = l.copies ≡ take l.g-index l.g-items
