use Rattle.std.proofs.Common.{◌≡◌, map, take}
use Rattle.fo_core.specs.declared.formula.Formula.TheVariants as F
use Rattle.up_diagram.specs.Claims.{flat_formula}
use Rattle.up_diagram.proofs.claims.clause.Given as goal

-- the literals before this one are denied
abbrev pub invariant-each : goal.invariant-each
invariant-each l = l.parts ≡ map (λ lit. F.Not (flat_formula l.sig l.copy lit)) (take l.lit-index l.lit-items)
