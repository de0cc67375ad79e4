use Rattle.std.proofs.Common.{◌≡◌, map, take}
use Rattle.up_claims.specs.Transitions.{transition_claim as transition_claim_of}
use Rattle.up_claims.proofs.transition.any_transition.Given as goal

-- the transitions before this one are claimed
abbrev pub invariant-each : goal.invariant-each
invariant-each l = l.parts ≡ map (transition_claim_of l.sys.sig) (take l.step-index l.step-items)
