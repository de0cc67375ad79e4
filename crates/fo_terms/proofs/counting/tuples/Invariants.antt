use Rattle.std.proofs.Common.{◌≡◌, take}
use Rattle.fo_core.specs.Weights.{power}
use Rattle.fo_core.specs.QueryWeight.{cut}
use Rattle.fo_terms.proofs.counting.tuples.Given as goal

-- the product over the sorts so far
abbrev pub invariant-each : goal.invariant-each
invariant-each l = l.product ≡ cut (power l.counts (take l.sort-index l.sorts))
