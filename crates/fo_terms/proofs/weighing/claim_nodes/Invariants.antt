use Rattle.std.proofs.Common.{◌≡◌, true, [], take}
use Rattle.fo_core.specs.Weights.{added, nodes}
use Rattle.fo_core.specs.QueryWeight.{cut}
use Rattle.fo_terms.proofs.weighing.claim_nodes.Given as goal

-- the claims so far
abbrev pub invariant-each : goal.invariant-each
invariant-each l = l.sum ≡ cut (added (λ f. nodes l.counts true f []) (take l.claim-index l.claims))
