use Rattle.std.proofs.Common.{◌≡◌, ◌+◌, ◌*◌, map, drop}
use Rattle.std.specs.Prelude.{slice_index}
use Rattle.fo_core.specs.Tables.{tuples, place as place_of}
use Rattle.fo_core.proofs.tuples.tuple_place.Given as goal

-- the place so far, and that of what is left
abbrev pub invariant-each : goal.invariant-each
invariant-each l =
    let ns = map (slice_index l.sizes) l.sorts in
    l.place * tuples (drop l.i ns) + place_of (drop l.i ns) (drop l.i l.elements) ≡ place_of ns l.elements
