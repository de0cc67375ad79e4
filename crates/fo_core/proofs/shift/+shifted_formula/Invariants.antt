use Rattle.std.proofs.Common.{◌≡◌, map, take}
use Rattle.fo_core.specs.Shift.{shift}
use Rattle.fo_core.proofs.shift.+shifted_formula.Given as goal

-- the members before this one are moved
abbrev pub invariant-conjuncts : goal.invariant-conjuncts
invariant-conjuncts l = l.parts ≡ map (shift l.sig l.by) (take l.g-index l.g-items)

abbrev pub invariant-disjuncts : goal.invariant-disjuncts
invariant-disjuncts l = l.parts ≡ map (shift l.sig l.by) (take l.g-index l.g-items)
