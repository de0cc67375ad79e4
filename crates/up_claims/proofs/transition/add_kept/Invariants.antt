use Rattle.std.proofs.Common.{◌≡◌, ◌++◌, length}
use Rattle.up_claims.specs.Transitions.{kept_below}
use Rattle.up_claims.proofs.transition.add_kept.Given as goal

-- the symbols before this one are looked at
abbrev pub invariant-each : goal.invariant-each
invariant-each l = l.claims ≡ l.fn.claims ++ kept_below l.sig (length l.step.params) l.step.modifies l.k
