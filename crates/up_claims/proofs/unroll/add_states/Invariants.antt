use Rattle.std.proofs.Common.{◌≡◌, ◌++◌}
use Rattle.up_claims.specs.Claims.{states_below}
use Rattle.up_claims.proofs.unroll.add_states.Given as goal

-- the copies before this one are done
abbrev pub invariant-each : goal.invariant-each
invariant-each l = l.claims ≡ l.fn.claims ++ states_below l.sys l.c
