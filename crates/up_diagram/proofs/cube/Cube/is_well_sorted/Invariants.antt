use Rattle.std.proofs.Common.{ℕ, ◌<◌, get_or}
use Rattle.up_diagram.specs.declared.cube.Flat.{Flat}
use Rattle.up_diagram.specs.Cubes.{IsFlat}
use Rattle.up_diagram.proofs.cube.Cube.is_well_sorted.Given as goal

-- the literals before this one are well-sorted
abbrev pub invariant-each : goal.invariant-each
invariant-each l = (k : ℕ) (d : Flat) → k < l.lit-index → IsFlat l.sig l.self.sorts (get_or l.lit-items k d)
