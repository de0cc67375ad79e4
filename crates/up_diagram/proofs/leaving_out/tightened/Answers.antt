use Rattle.std.proofs.Common.{◌≡◌, ◌∙◌, ◌<◌, ℕ, false, List, length, get_or, map, take_all, sym, ap, ap₂, subst, arith}
use Rattle.std.specs.Prelude.{slice_index, slice_index_or}
use Rattle.std.specs.List.{All, filter, range_with_len}
use Rattle.up_diagram.specs.declared.cube.Flat.{Flat}
use Rattle.up_diagram.specs.declared.cube.Cube.{Cube}
use Rattle.up_diagram.specs.Cubes.{renamed, variables_in}
use Rattle.up_diagram.specs.Marks.{rank_among}
use Rattle.up_diagram.proofs.Tightening.{places-count, place-low, used-are, literals-are}
use Rattle.up_diagram.proofs.leaving_out.tightened.Goals as goal

abbrev make : List ℕ → List Flat → Cube
make sorts lits = record { sorts = sorts; lits = lits }

pub renamed-requires-clause-within : goal.renamed-requires-clause-within
renamed-requires-clause-within c =
    let placed = ap (λ ms. map (rank_among ms) (range_with_len 0 (length ms))) c.as_slice.ensures.value in
    let count : length c.as_slice-in-each.result.now ≡ length c.args.sorts.now =
    ap length c.as_slice-in-each.ensures.value
    ∙ places-count c.in_ok-marks.marks.items c.in_ok-places.places.items (c.in_ok-places.ensures ∙ placed)
    ∙ c.in_ok-marks.ensures.count in
    subst (λ (lit : Flat). All (λ v. v < length c.as_slice-in-each.result.now) (variables_in lit)) (sym c.lit-item.is)
    (subst (λ many. All (λ v. v < many) (variables_in (get_or c.args.lits.now c.each.lit-index c.lit-item.result))) (sym count)
    (c.requires c.each.lit-index c.lit-item.result c.each-test.true))

pub renamed-requires-clause-small : goal.renamed-requires-clause-small
renamed-requires-clause-small c v lt =
    let placed = ap (λ ms. map (rank_among ms) (range_with_len 0 (length ms))) c.as_slice.ensures.value in
    let low = place-low c.in_ok-marks.marks.items c.in_ok-places.places.items (c.in_ok-places.ensures ∙ placed) v in
    rw c.as_slice-in-each.ensures.value (omega (arith, low, lt))

pub returns : goal.returns
returns c =
    let lits = c.args.lits.now in
    let count = length c.args.sorts.now in
    let marks = c.in_ok-marks.marks.items in
    let placed = ap (λ ms. map (rank_among ms) (range_with_len 0 (length ms))) c.as_slice.ensures.value in
    ap₂ make
    (c.in_ok-sorts.ensures
    ∙ ap (λ ms. map (slice_index c.args.sorts.now) (filter (λ v. slice_index_or ms v false) (range_with_len 0 count))) c.as_slice-2.ensures.value
    ∙ ap (map (slice_index c.args.sorts.now)) (used-are lits count marks c.in_ok-marks.ensures))
    (c.each.invariant
    ∙ ap (map (renamed (slice_index c.in_ok-places.places.items))) (take_all c.each.lit-index lits c.each-test.false)
    ∙ literals-are lits count marks c.in_ok-marks.ensures c.in_ok-places.places.items (c.in_ok-places.ensures ∙ placed) c.requires)
