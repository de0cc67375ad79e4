use Rattle.std.proofs.Common.{ℕ, ◌<◌, get_or}
use Rattle.std.specs.Prelude.{slice_index}
use Rattle.up_diagram.specs.declared.cube.Flat.{Flat}
use Rattle.up_diagram.specs.Cubes.{renamed}
use Rattle.up_diagram.specs.Covers.{IsAlike}
use Rattle.up_diagram.proofs.covering.has_image.Given as goal

-- the literal becomes none before this one
abbrev pub invariant-each : goal.invariant-each
invariant-each l = (k : ℕ) (d : Flat) → k < l.other-index → ¬ IsAlike (renamed (slice_index l.images) l.lit) (get_or l.others k d)
