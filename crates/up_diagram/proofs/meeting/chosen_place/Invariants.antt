use Rattle.std.proofs.Common.{◌≡◌, ◌+◌, ◌*◌, map, drop}
use Rattle.std.specs.Prelude.{slice_index}
use Rattle.fo_core.specs.Tables.{tuples, place}
use Rattle.up_diagram.specs.Cubes.{chosen}
use Rattle.up_diagram.proofs.meeting.chosen_place.Given as goal

-- the place so far, and that of the rest
abbrev pub invariant-each : goal.invariant-each
invariant-each l = l.place * tuples (drop l.i (map (slice_index l.sizes) l.sorts)) + place (drop l.i (map (slice_index l.sizes) l.sorts)) (drop l.i (chosen l.picks l.variables)) ≡ place (map (slice_index l.sizes) l.sorts) (chosen l.picks l.variables)
