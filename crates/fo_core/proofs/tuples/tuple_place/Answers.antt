use Rattle.std.proofs.Common.{arith, map}
use Rattle.std.specs.Prelude.{slice_index}
use Rattle.fo_core.proofs.PlaceLemmas.{elements-below, place_more, place_fits, place_done, sort_within, size_at}
use Rattle.fo_core.proofs.tuples.tuple_place.Goals as goal

pub bounds-sizes-sorts : goal.bounds-sizes-sorts
bounds-sizes-sorts c = sort_within c.args.sizes.now c.args.sorts.now c.args.elements.now c.requires.elements c.each.i c.each-test.true

pub overflow_mul-place : goal.overflow_mul-place
overflow_mul-place c =
    let below = elements-below c.args.sizes.now c.args.elements.now c.args.sorts.now c.requires.elements in
    let fits = place_fits c.args.elements.now (map (slice_index c.args.sizes.now) c.args.sorts.now) below c.each.i c.each.place c.each.invariant c.each-test.true c.requires.few in
    let size = size_at c.args.sizes.now c.args.sorts.now c.args.elements.now c.requires.elements c.each.i c.each-test.true in
    rw (← size) (omega arith)

pub overflow_add-place : goal.overflow_add-place
overflow_add-place c =
    let below = elements-below c.args.sizes.now c.args.elements.now c.args.sorts.now c.requires.elements in
    let fits = place_fits c.args.elements.now (map (slice_index c.args.sizes.now) c.args.sorts.now) below c.each.i c.each.place c.each.invariant c.each-test.true c.requires.few in
    let size = size_at c.args.sizes.now c.args.sorts.now c.args.elements.now c.requires.elements c.each.i c.each-test.true in
    rw (← size) (omega arith)

pub each-preserved : goal.each-preserved
each-preserved c =
    let below = elements-below c.args.sizes.now c.args.elements.now c.args.sorts.now c.requires.elements in
    let more = place_more c.args.elements.now (map (slice_index c.args.sizes.now) c.args.sorts.now) below c.each.i c.each.place c.each.invariant c.each-test.true in
    let size = size_at c.args.sizes.now c.args.sorts.now c.args.elements.now c.requires.elements c.each.i c.each-test.true in
    rw (← size) more

pub returns : goal.returns
returns c =
    let below = elements-below c.args.sizes.now c.args.elements.now c.args.sorts.now c.requires.elements in
    place_done c.args.elements.now (map (slice_index c.args.sizes.now) c.args.sorts.now) below c.each.i c.each.place c.each.invariant (omega arith)
