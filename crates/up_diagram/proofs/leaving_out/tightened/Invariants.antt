use Rattle.std.proofs.Common.{◌≡◌, map, take}
use Rattle.std.specs.Prelude.{slice_index}
use Rattle.up_diagram.specs.Cubes.{renamed}
use Rattle.up_diagram.proofs.leaving_out.tightened.Given as goal

-- the literals before this one, renamed
abbrev pub invariant-each : goal.invariant-each
invariant-each l = l.kept ≡ map (renamed (slice_index l.places.items)) (take l.lit-index l.lits)
