use Rattle.std.proofs.Common.{◌≡◌, ◌*◌, drop}
use Rattle.fo_core.specs.Weights.{power}
use Rattle.fo_ground.proofs.layout.tuples.Given as goal

-- the product so far, with that of what is left
abbrev pub invariant-each : goal.invariant-each
invariant-each l = l.product * power l.sizes (drop l.sort-index l.sorts) ≡ l.factor * power l.sizes l.sorts
