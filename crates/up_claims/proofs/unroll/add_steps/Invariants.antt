use Rattle.std.proofs.Common.{◌≡◌, ◌++◌}
use Rattle.up_claims.specs.Claims.{steps_below}
use Rattle.up_claims.specs.Transitions.{any_transition as any_transition_of}
use Rattle.up_claims.proofs.unroll.add_steps.Given as goal

-- the copies before this one are done, and the claim stays what it was
abbrev pub invariant-each : goal.invariant-each
invariant-each l = record {
  claims : l.claims ≡ l.fn.claims ++ steps_below l.sys l.c;
  transition : l.transition ≡ any_transition_of l.sys;
}
