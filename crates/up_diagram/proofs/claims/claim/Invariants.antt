use Rattle.std.proofs.Common.{◌≡◌, map, take}
use Rattle.up_diagram.specs.Claims.{flat_formula}
use Rattle.up_diagram.proofs.claims.claim.Given as goal

-- the literals before this one are said
abbrev pub invariant-each : goal.invariant-each
invariant-each l = l.parts ≡ map (flat_formula l.sig l.copy) (take l.lit-index l.lit-items)
