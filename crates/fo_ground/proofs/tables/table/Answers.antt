use Rattle.std.proofs.Common.{◌≡◌, ◌∙◌, ◌*◌, ◌<◌, ℕ, List, sym, ap, subst, arith, map}
use Rattle.std.specs.List.{range_with_len}
use Rattle.std.specs.Prelude.{slice_index}
use Rattle.std.proofs.lemmas.List.Elements.{All-get_or}
use Rattle.std.proofs.lemmas.List.FromFn.{map-range_with_len_more}
use Rattle.fo_core.specs.declared.signature.Symbol.{Symbol}
use Rattle.fo_core.specs.Sorted.{HasSorts}
use Rattle.fo_core.specs.Tables.{no_symbol, symbol_at, tuples}
use Rattle.fo_core.specs.Weights.{power}
use Rattle.prop_core.specs.Formula.{value_of}
use Rattle.fo_ground.specs.Classes.{heads_at}
use Rattle.fo_ground.specs.Layout.{slot, same_by, fact_by}
use Rattle.fo_ground.specs.Reading.{count_by, entry_by, value_by, picked}
use Rattle.fo_ground.proofs.ReadLemmas.{sizes-length, heads-length, one-size, sizes-are, picked-are, heads_at-sorted}
use Rattle.fo_ground.proofs.tables.table.Goals as goal
use Rattle.fo_core.specs.Tuples.{tuple_at}
use Rattle.fo_core.proofs.TupleLemmas.{tuple-below}

pub tuples-requires : goal.tuples-requires
tuples-requires c =
    let has : HasSorts c.args.lay.now.sig.sorts (symbol_at c.args.lay.now.sig c.args.symbol) = All-get_or (HasSorts c.args.lay.now.sig.sorts) c.args.lay.now.sig.symbols c.args.symbol no_symbol c.requires.symbol c.requires.sig.sorts in
    let sorts : c.as_slice-sorts.result.now ≡ (symbol_at c.args.lay.now.sig c.args.symbol).args = c.as_slice-sorts.ensures ∙ ap (λ (s : Symbol). s.args) (c.at.ensures no_symbol) in
    rw (sorts, c.as_slice.ensures) (λ k d lt. let h = has.args k d lt in omega (arith, h, sizes-length c.args.u.now c.args.lay.now (value_of c.args.values.now) c.args.classes.now c.requires.read))

pub tuple_heads-requires-clause-one_each : goal.tuple_heads-requires-clause-one_each
tuple_heads-requires-clause-one_each c = heads-length c.args.u.now c.args.lay.now (value_of c.args.values.now) c.args.classes.now c.requires.read ∙ sym (sizes-length c.args.u.now c.args.lay.now (value_of c.args.values.now) c.args.classes.now c.requires.read)

pub tuple_heads-requires-clause-sizes : goal.tuple_heads-requires-clause-sizes
tuple_heads-requires-clause-sizes c = one-size c.args.u.now c.args.lay.now (value_of c.args.values.now) c.args.classes.now c.requires.read

pub tuple_heads-requires-clause-sorts : goal.tuple_heads-requires-clause-sorts
tuple_heads-requires-clause-sorts c =
    let has : HasSorts c.args.lay.now.sig.sorts (symbol_at c.args.lay.now.sig c.args.symbol) = All-get_or (HasSorts c.args.lay.now.sig.sorts) c.args.lay.now.sig.symbols c.args.symbol no_symbol c.requires.symbol c.requires.sig.sorts in
    let sorts : c.as_slice-sorts.result.now ≡ (symbol_at c.args.lay.now.sig c.args.symbol).args = c.as_slice-sorts.ensures ∙ ap (λ (s : Symbol). s.args) (c.at.ensures no_symbol) in
    rw sorts (λ k d lt. let h = has.args k d lt in omega (arith, h, sizes-length c.args.u.now c.args.lay.now (value_of c.args.values.now) c.args.classes.now c.requires.read))

pub entry-entry-requires-clause-args : goal.entry-entry-requires-clause-args
entry-entry-requires-clause-args c =
    let has : HasSorts c.args.lay.now.sig.sorts (symbol_at c.args.lay.now.sig c.args.symbol) = All-get_or (HasSorts c.args.lay.now.sig.sorts) c.args.lay.now.sig.symbols c.args.symbol no_symbol c.requires.symbol c.requires.sig.sorts in
    let sorts : c.as_slice-sorts.result.now ≡ (symbol_at c.args.lay.now.sig c.args.symbol).args = c.as_slice-sorts.ensures ∙ ap (λ (s : Symbol). s.args) (c.at.ensures no_symbol) in
    let ss = (symbol_at c.args.lay.now.sig c.args.symbol).args in
    let xs = tuple_at (map (count_by c.args.u.now c.args.lay.now (value_of c.args.values.now)) (symbol_at c.args.lay.now.sig c.args.symbol).args) c.each.number in
    let sizes = sizes-are c.args.u.now c.args.lay.now (value_of c.args.values.now) c.args.classes.now c.requires.read (symbol_at c.args.lay.now.sig c.args.symbol).args has.args in
    let count : c.in-Some.tuples ≡ tuples (map (count_by c.args.u.now c.args.lay.now (value_of c.args.values.now)) (symbol_at c.args.lay.now.sig c.args.symbol).args) =
    (let h : c.in-Some.tuples ≡ 1 * power c.as_slice.result.now c.as_slice-sorts.result.now = c.in-Some.ensures in omega (arith, h))
    ∙ ap (λ ns. power ns c.as_slice-sorts.result.now) c.as_slice.ensures ∙ ap (power c.args.classes.now.sizes) sorts ∙ ap tuples sizes in
    let below = tuple-below (map (count_by c.args.u.now c.args.lay.now (value_of c.args.values.now)) (symbol_at c.args.lay.now.sig c.args.symbol).args) c.each.number (subst (λ n. c.each.number < n) count c.each-test.true) in
    let heads : c.in_ok-heads.heads.items ≡ heads_at c.args.u.now.terms (slot c.args.u.now c.args.lay.now) (same_by c.args.u.now c.args.lay.now (value_of c.args.values.now)) (fact_by c.args.u.now c.args.lay.now (value_of c.args.values.now)) (symbol_at c.args.lay.now.sig c.args.symbol).args xs =
    c.in_ok-heads.ensures ∙ ap (λ zs. picked c.args.classes.now.heads zs (tuple_at (map (slice_index c.args.classes.now.sizes) zs) c.each.number)) sorts
    ∙ ap (λ ns. picked c.args.classes.now.heads (symbol_at c.args.lay.now.sig c.args.symbol).args (tuple_at ns c.each.number)) sizes ∙ picked-are c.args.u.now c.args.lay.now (value_of c.args.values.now) c.args.classes.now c.requires.read (symbol_at c.args.lay.now.sig c.args.symbol).args xs has.args in
    rw (c.as_slice-in-each.ensures.value, heads) (heads_at-sorted c.args.u.now c.args.lay.now (value_of c.args.values.now) (symbol_at c.args.lay.now.sig c.args.symbol).args xs below)

pub each-preserved : goal.each-preserved
each-preserved c =
    let has : HasSorts c.args.lay.now.sig.sorts (symbol_at c.args.lay.now.sig c.args.symbol) = All-get_or (HasSorts c.args.lay.now.sig.sorts) c.args.lay.now.sig.symbols c.args.symbol no_symbol c.requires.symbol c.requires.sig.sorts in
    let sorts : c.as_slice-sorts.result.now ≡ (symbol_at c.args.lay.now.sig c.args.symbol).args = c.as_slice-sorts.ensures ∙ ap (λ (s : Symbol). s.args) (c.at.ensures no_symbol) in
    let ss = (symbol_at c.args.lay.now.sig c.args.symbol).args in
    let xs = tuple_at (map (count_by c.args.u.now c.args.lay.now (value_of c.args.values.now)) (symbol_at c.args.lay.now.sig c.args.symbol).args) c.each.number in
    let sizes = sizes-are c.args.u.now c.args.lay.now (value_of c.args.values.now) c.args.classes.now c.requires.read (symbol_at c.args.lay.now.sig c.args.symbol).args has.args in
    let count : c.in-Some.tuples ≡ tuples (map (count_by c.args.u.now c.args.lay.now (value_of c.args.values.now)) (symbol_at c.args.lay.now.sig c.args.symbol).args) =
    (let h : c.in-Some.tuples ≡ 1 * power c.as_slice.result.now c.as_slice-sorts.result.now = c.in-Some.ensures in omega (arith, h))
    ∙ ap (λ ns. power ns c.as_slice-sorts.result.now) c.as_slice.ensures ∙ ap (power c.args.classes.now.sizes) sorts ∙ ap tuples sizes in
    let below = tuple-below (map (count_by c.args.u.now c.args.lay.now (value_of c.args.values.now)) (symbol_at c.args.lay.now.sig c.args.symbol).args) c.each.number (subst (λ n. c.each.number < n) count c.each-test.true) in
    let heads : c.in_ok-heads.heads.items ≡ heads_at c.args.u.now.terms (slot c.args.u.now c.args.lay.now) (same_by c.args.u.now c.args.lay.now (value_of c.args.values.now)) (fact_by c.args.u.now c.args.lay.now (value_of c.args.values.now)) (symbol_at c.args.lay.now.sig c.args.symbol).args xs =
    c.in_ok-heads.ensures ∙ ap (λ zs. picked c.args.classes.now.heads zs (tuple_at (map (slice_index c.args.classes.now.sizes) zs) c.each.number)) sorts
    ∙ ap (λ ns. picked c.args.classes.now.heads (symbol_at c.args.lay.now.sig c.args.symbol).args (tuple_at ns c.each.number)) sizes ∙ picked-are c.args.u.now c.args.lay.now (value_of c.args.values.now) c.args.classes.now c.requires.read (symbol_at c.args.lay.now.sig c.args.symbol).args xs has.args in
    let value : c.entry-entry.result ≡ value_by c.args.u.now c.args.lay.now (value_of c.args.values.now) c.args.copy c.args.symbol c.each.number = c.entry-entry.ensures ∙ ap (entry_by c.args.u.now c.args.lay.now (value_of c.args.values.now) c.args.symbol c.args.copy) (c.as_slice-in-each.ensures.value ∙ heads) in
    rw (c.in_ok-push.ensures.items, c.each.invariant, value) (sym (map-range_with_len_more (value_by c.args.u.now c.args.lay.now (value_of c.args.values.now) c.args.copy c.args.symbol) 0 c.each.number c.each.number (omega arith)))

pub returns : goal.returns
returns c =
    let has : HasSorts c.args.lay.now.sig.sorts (symbol_at c.args.lay.now.sig c.args.symbol) = All-get_or (HasSorts c.args.lay.now.sig.sorts) c.args.lay.now.sig.symbols c.args.symbol no_symbol c.requires.symbol c.requires.sig.sorts in
    let sorts : c.as_slice-sorts.result.now ≡ (symbol_at c.args.lay.now.sig c.args.symbol).args = c.as_slice-sorts.ensures ∙ ap (λ (s : Symbol). s.args) (c.at.ensures no_symbol) in
    let ss = (symbol_at c.args.lay.now.sig c.args.symbol).args in
    let xs = tuple_at (map (count_by c.args.u.now c.args.lay.now (value_of c.args.values.now)) (symbol_at c.args.lay.now.sig c.args.symbol).args) c.each.number in
    let sizes = sizes-are c.args.u.now c.args.lay.now (value_of c.args.values.now) c.args.classes.now c.requires.read (symbol_at c.args.lay.now.sig c.args.symbol).args has.args in
    let count : c.in-Some.tuples ≡ tuples (map (count_by c.args.u.now c.args.lay.now (value_of c.args.values.now)) (symbol_at c.args.lay.now.sig c.args.symbol).args) =
    (let h : c.in-Some.tuples ≡ 1 * power c.as_slice.result.now c.as_slice-sorts.result.now = c.in-Some.ensures in omega (arith, h))
    ∙ ap (λ ns. power ns c.as_slice-sorts.result.now) c.as_slice.ensures ∙ ap (power c.args.classes.now.sizes) sorts ∙ ap tuples sizes in
    let n : c.each.number ≡ tuples (map (count_by c.args.u.now c.args.lay.now (value_of c.args.values.now)) (symbol_at c.args.lay.now.sig c.args.symbol).args) = (let z : c.each.number ≡ c.in-Some.tuples = omega arith in z) ∙ count in
    ap (λ (ys : List ℕ). record { values = ys }) (c.from_vec.ensures ∙ c.each.invariant ∙ ap (λ n. map (value_by c.args.u.now c.args.lay.now (value_of c.args.values.now) c.args.copy c.args.symbol) (range_with_len 0 n)) n)
