use Rattle.std.proofs.Common.{◌≡◌, ◌<◌, arith, map, length, get_or}
use Rattle.std.specs.Prelude.{slice_index}
use Rattle.std.proofs.lemmas.List.{length-map, get_or-map}
use Rattle.fo_core.proofs.PlaceLemmas.{elements-below, place_more, place_fits, place_done, sort_within, size_at}
use Rattle.up_diagram.specs.Cubes.{chosen}
use Rattle.up_diagram.proofs.meeting.chosen_place.Goals as goal

pub bounds-sizes-sorts : goal.bounds-sizes-sorts
bounds-sizes-sorts c =
    let lt : c.each.i < length (chosen c.args.picks.now c.args.variables.now) = omega (arith, length-map c.args.variables.now (slice_index c.args.picks.now), c.each-test.true) in
    sort_within c.args.sizes.now c.args.sorts.now (chosen c.args.picks.now c.args.variables.now) c.requires.elements c.each.i lt

pub overflow_mul-place : goal.overflow_mul-place
overflow_mul-place c =
    let below = elements-below c.args.sizes.now (chosen c.args.picks.now c.args.variables.now) c.args.sorts.now c.requires.elements in
    let lt : c.each.i < length (chosen c.args.picks.now c.args.variables.now) = omega (arith, length-map c.args.variables.now (slice_index c.args.picks.now), c.each-test.true) in
    let fits = place_fits (chosen c.args.picks.now c.args.variables.now) (map (slice_index c.args.sizes.now) c.args.sorts.now) below c.each.i c.each.place c.each.invariant lt c.requires.few in
    let size = size_at c.args.sizes.now c.args.sorts.now (chosen c.args.picks.now c.args.variables.now) c.requires.elements c.each.i lt in
    rw (← size) (omega arith)

pub overflow_add-place : goal.overflow_add-place
overflow_add-place c =
    let below = elements-below c.args.sizes.now (chosen c.args.picks.now c.args.variables.now) c.args.sorts.now c.requires.elements in
    let lt : c.each.i < length (chosen c.args.picks.now c.args.variables.now) = omega (arith, length-map c.args.variables.now (slice_index c.args.picks.now), c.each-test.true) in
    let fits = place_fits (chosen c.args.picks.now c.args.variables.now) (map (slice_index c.args.sizes.now) c.args.sorts.now) below c.each.i c.each.place c.each.invariant lt c.requires.few in
    let size = size_at c.args.sizes.now c.args.sorts.now (chosen c.args.picks.now c.args.variables.now) c.requires.elements c.each.i lt in
    let picked : get_or (chosen c.args.picks.now c.args.variables.now) c.each.i 0 ≡ slice_index c.args.picks.now (get_or c.args.variables.now c.each.i 0) = get_or-map (slice_index c.args.picks.now) c.args.variables.now c.each.i 0 0 c.each-test.true in
    rw (← size, ← picked) (omega arith)

pub each-preserved : goal.each-preserved
each-preserved c =
    let below = elements-below c.args.sizes.now (chosen c.args.picks.now c.args.variables.now) c.args.sorts.now c.requires.elements in
    let lt : c.each.i < length (chosen c.args.picks.now c.args.variables.now) = omega (arith, length-map c.args.variables.now (slice_index c.args.picks.now), c.each-test.true) in
    let size = size_at c.args.sizes.now c.args.sorts.now (chosen c.args.picks.now c.args.variables.now) c.requires.elements c.each.i lt in
    let picked : get_or (chosen c.args.picks.now c.args.variables.now) c.each.i 0 ≡ slice_index c.args.picks.now (get_or c.args.variables.now c.each.i 0) = get_or-map (slice_index c.args.picks.now) c.args.variables.now c.each.i 0 0 c.each-test.true in
    let more = place_more (chosen c.args.picks.now c.args.variables.now) (map (slice_index c.args.sizes.now) c.args.sorts.now) below c.each.i c.each.place c.each.invariant lt in
    rw (← size, ← picked) more

pub returns : goal.returns
returns c =
    let below = elements-below c.args.sizes.now (chosen c.args.picks.now c.args.variables.now) c.args.sorts.now c.requires.elements in
    place_done (chosen c.args.picks.now c.args.variables.now) (map (slice_index c.args.sizes.now) c.args.sorts.now) below c.each.i c.each.place c.each.invariant (omega (arith, length-map c.args.variables.now (slice_index c.args.picks.now), c.each-test.false))
