use Rattle.std.proofs.Common.{◌≡◌, ◌∙◌, ◌<◌, ◌≤◌, [], ℕ, List, sym, ap, subst, refl, length, get_or, map, arith}
use Rattle.std.specs.List.{All, position_or_len, range_with_len}
use Rattle.std.proofs.lemmas.List.FromFn.{map-range_with_len_more, get_or-map-range_with_len, length-map-range_with_len}
use Rattle.prop_core.specs.Formula.{value_of}
use Rattle.fo_terms.specs.declared.terms.Ground.{Ground}
use Rattle.fo_terms.specs.Universe.{no_ground, IsOf, sort_at}
use Rattle.fo_ground.specs.Classes.{heads_of, class_of}
use Rattle.fo_ground.specs.Layout.{slot, same_by, fact_by}
use Rattle.fo_ground.specs.Reading.{heads_by, class_by}
use Rattle.fo_ground.proofs.ReadLemmas.{map-twice, heads_by-few}
use Rattle.fo_ground.proofs.HeadSteps.{heads-few, heads-sorted, position-le}
use Rattle.fo_ground.proofs.classes.read_classes.Goals as goal

pub at-requires-in-each : goal.at-requires-in-each
at-requires-in-each c =
    let lt = c.requires.ready.sorts c.each.p (omega (arith, c.each-test.true, c.len-p-end.ensures)) in
    let len = length-map-range_with_len (heads_of c.args.u.now.terms (slot c.args.u.now c.args.lay.now) (same_by c.args.u.now c.args.lay.now (value_of c.args.values.now)) (fact_by c.args.u.now c.args.lay.now (value_of c.args.values.now))) 0 c.args.lay.now.sig.sorts in
    rw (c.in_ok-heads.ensures, c.at.ensures no_ground) (omega (arith, lt, len))

pub class_number-requires-clause-sorted : goal.class_number-requires-clause-sorted
class_number-requires-clause-sorted c =
    let in_ : c.each.p < length c.args.u.now.terms = omega (arith, c.each-test.true, c.len-p-end.ensures) in
    let s = sort_at c.args.u.now.terms c.each.p in
    let lt = c.requires.ready.sorts c.each.p in_ in
    let here = get_or-map-range_with_len (heads_of c.args.u.now.terms (slot c.args.u.now c.args.lay.now) (same_by c.args.u.now c.args.lay.now (value_of c.args.values.now)) (fact_by c.args.u.now c.args.lay.now (value_of c.args.values.now))) 0 c.args.lay.now.sig.sorts s s [] lt (omega arith) in
    let sort : c.at.result.now.sort ≡ sort_at c.args.u.now.terms c.each.p = ap (λ (g : Ground). g.sort) (c.at.ensures no_ground) in
    let is : c.as_slice-of_sort.result.now ≡ heads_of c.args.u.now.terms (slot c.args.u.now c.args.lay.now) (same_by c.args.u.now c.args.lay.now (value_of c.args.values.now)) (fact_by c.args.u.now c.args.lay.now (value_of c.args.values.now)) (sort_at c.args.u.now.terms c.each.p) =
    c.as_slice-of_sort.ensures ∙ c.at-in-each.ensures [] ∙ ap (λ n. get_or c.in_ok-heads.heads n []) sort ∙ ap (λ (hs : List (List ℕ)). get_or hs (sort_at c.args.u.now.terms c.each.p) []) c.in_ok-heads.ensures ∙ here in
    (s, subst (All (IsOf c.args.u.now.terms s)) (sym is) (heads-sorted c.args.u.now.terms (slot c.args.u.now c.args.lay.now) (same_by c.args.u.now c.args.lay.now (value_of c.args.values.now)) (fact_by c.args.u.now c.args.lay.now (value_of c.args.values.now)) s (length c.args.u.now.terms) (omega arith)), (in_, refl))

pub overflow_cast-class_number : goal.overflow_cast-class_number
overflow_cast-class_number c =
    let in_ : c.each.p < length c.args.u.now.terms = omega (arith, c.each-test.true, c.len-p-end.ensures) in
    let s = sort_at c.args.u.now.terms c.each.p in
    let lt = c.requires.ready.sorts c.each.p in_ in
    let here = get_or-map-range_with_len (heads_of c.args.u.now.terms (slot c.args.u.now c.args.lay.now) (same_by c.args.u.now c.args.lay.now (value_of c.args.values.now)) (fact_by c.args.u.now c.args.lay.now (value_of c.args.values.now))) 0 c.args.lay.now.sig.sorts s s [] lt (omega arith) in
    let sort : c.at.result.now.sort ≡ sort_at c.args.u.now.terms c.each.p = ap (λ (g : Ground). g.sort) (c.at.ensures no_ground) in
    let is : c.as_slice-of_sort.result.now ≡ heads_of c.args.u.now.terms (slot c.args.u.now c.args.lay.now) (same_by c.args.u.now c.args.lay.now (value_of c.args.values.now)) (fact_by c.args.u.now c.args.lay.now (value_of c.args.values.now)) (sort_at c.args.u.now.terms c.each.p) =
    c.as_slice-of_sort.ensures ∙ c.at-in-each.ensures [] ∙ ap (λ n. get_or c.in_ok-heads.heads n []) sort ∙ ap (λ (hs : List (List ℕ)). get_or hs (sort_at c.args.u.now.terms c.each.p) []) c.in_ok-heads.ensures ∙ here in
    let le = position-le (λ (q : ℕ). same_by c.args.u.now c.args.lay.now (value_of c.args.values.now) q c.each.p) c.as_slice-of_sort.result.now in
    omega (arith, c.class_number.ensures, le, ap length is, heads-few c.args.u.now.terms (slot c.args.u.now c.args.lay.now) (same_by c.args.u.now c.args.lay.now (value_of c.args.values.now)) (fact_by c.args.u.now c.args.lay.now (value_of c.args.values.now)) s (length c.args.u.now.terms), c.requires.ready.few_terms)

pub each-preserved : goal.each-preserved
each-preserved c =
    let in_ : c.each.p < length c.args.u.now.terms = omega (arith, c.each-test.true, c.len-p-end.ensures) in
    let s = sort_at c.args.u.now.terms c.each.p in
    let lt = c.requires.ready.sorts c.each.p in_ in
    let here = get_or-map-range_with_len (heads_of c.args.u.now.terms (slot c.args.u.now c.args.lay.now) (same_by c.args.u.now c.args.lay.now (value_of c.args.values.now)) (fact_by c.args.u.now c.args.lay.now (value_of c.args.values.now))) 0 c.args.lay.now.sig.sorts s s [] lt (omega arith) in
    let sort : c.at.result.now.sort ≡ sort_at c.args.u.now.terms c.each.p = ap (λ (g : Ground). g.sort) (c.at.ensures no_ground) in
    let is : c.as_slice-of_sort.result.now ≡ heads_of c.args.u.now.terms (slot c.args.u.now c.args.lay.now) (same_by c.args.u.now c.args.lay.now (value_of c.args.values.now)) (fact_by c.args.u.now c.args.lay.now (value_of c.args.values.now)) (sort_at c.args.u.now.terms c.each.p) =
    c.as_slice-of_sort.ensures ∙ c.at-in-each.ensures [] ∙ ap (λ n. get_or c.in_ok-heads.heads n []) sort ∙ ap (λ (hs : List (List ℕ)). get_or hs (sort_at c.args.u.now.terms c.each.p) []) c.in_ok-heads.ensures ∙ here in
    let number : c.class_number.result ≡ class_of c.args.u.now.terms (slot c.args.u.now c.args.lay.now) (same_by c.args.u.now c.args.lay.now (value_of c.args.values.now)) (fact_by c.args.u.now c.args.lay.now (value_of c.args.values.now)) c.each.p = c.class_number.ensures ∙ ap (position_or_len (λ (q : ℕ). same_by c.args.u.now c.args.lay.now (value_of c.args.values.now) q c.each.p)) is in
    rw (c.in_ok-push.ensures.items, c.each.invariant, number) (sym (map-range_with_len_more (class_of c.args.u.now.terms (slot c.args.u.now c.args.lay.now) (same_by c.args.u.now c.args.lay.now (value_of c.args.values.now)) (fact_by c.args.u.now c.args.lay.now (value_of c.args.values.now))) 0 c.each.p c.each.p (omega arith)))

pub sizes-requires-clause-few : goal.sizes-requires-clause-few
sizes-requires-clause-few c =
    rw (c.as_slice.ensures, c.in_ok-heads.ensures) (λ k d lt.
    let lt' : k < c.args.lay.now.sig.sorts = subst (λ n. k < n) (length-map-range_with_len (heads_by c.args.u.now c.args.lay.now (value_of c.args.values.now)) 0 c.args.lay.now.sig.sorts) lt in
    subst (λ (hs : List ℕ). length hs ≤ length c.args.u.now.terms) (sym (get_or-map-range_with_len (heads_by c.args.u.now c.args.lay.now (value_of c.args.values.now)) 0 c.args.lay.now.sig.sorts k k d lt' (omega arith))) (heads_by-few c.args.u.now c.args.lay.now (value_of c.args.values.now) k))

pub returns : goal.returns
returns c =
    let n : c.each.p ≡ length c.args.u.now.terms = omega (arith, c.len-p-end.ensures) in
    record {
      heads = c.in_ok-heads.ensures;
      sizes = c.in_ok-sizes.ensures ∙ ap (map length) (c.as_slice.ensures ∙ c.in_ok-heads.ensures) ∙ map-twice (heads_by c.args.u.now c.args.lay.now (value_of c.args.values.now)) length (range_with_len 0 c.args.lay.now.sig.sorts);
      numbers = c.from_vec.ensures ∙ c.each.invariant ∙ ap (λ n. map (class_by c.args.u.now c.args.lay.now (value_of c.args.values.now)) (range_with_len 0 n)) n;
    }
