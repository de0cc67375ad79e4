use Rattle.std.proofs.Common.{ℕ, ◌<◌, length, get_or}
use Rattle.std.specs.List.{All}
use Rattle.up_diagram.specs.declared.cube.Flat.{Flat}
use Rattle.up_diagram.specs.Cubes.{variables_in}
use Rattle.up_diagram.proofs.cube.Cube.has_places.Given as goal

-- the variables of the literals before this one are places
abbrev pub invariant-each : goal.invariant-each
invariant-each l = (k : ℕ) (d : Flat) → k < l.lit-index → All (λ v. v < length l.self.sorts) (variables_in (get_or l.lit-items k d))
