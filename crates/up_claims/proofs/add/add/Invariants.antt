use Rattle.std.proofs.Common.{◌≡◌, ◌++◌, take}
use Rattle.up_claims.specs.Claims.{at_copy}
use Rattle.up_claims.proofs.add.add.Given as goal

-- the formulas before this one are added
abbrev pub invariant-each : goal.invariant-each
invariant-each l = l.claims ≡ l.fn.claims ++ at_copy l.sig l.copy (take l.f-index l.formulas)
