use Rattle.std.proofs.Common.{◌≡◌, take}
use Rattle.fo_core.specs.Weights.{added}
use Rattle.fo_core.specs.QueryWeight.{cut, sort_weight}
use Rattle.fo_terms.proofs.weighing.sorts_weight.Given as goal

-- the sorts so far
abbrev pub invariant-each : goal.invariant-each
invariant-each l = l.sum ≡ cut (added sort_weight (take l.count-index l.counts))
