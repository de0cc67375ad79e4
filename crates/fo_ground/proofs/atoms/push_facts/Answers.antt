use Rattle.std.proofs.Common.{◌≡◌, ◌∙◌, ◌*◌, ◌/◌, ◌++◌, ◌∷◌, [], ℕ, List, sym, ap, arith, map, append_assoc}
use Rattle.std.specs.List.{range_with_len}
use Rattle.std.proofs.lemmas.List.Elements.{All-get_or}
use Rattle.std.proofs.lemmas.List.FromFn.{map-range_with_len_more}
use Rattle.fo_core.specs.declared.signature.Symbol.{Symbol}
use Rattle.fo_core.specs.Sorted.{HasSorts}
use Rattle.fo_core.specs.Tables.{no_symbol, symbol_at}
use Rattle.fo_core.specs.Weights.{power}
use Rattle.fo_core.specs.TermCounts.{term_counts}
use Rattle.fo_ground.specs.declared.layout.Layout.{Layout}
use Rattle.fo_ground.specs.declared.grounded.Atom.TheVariants.{Fact}
use Rattle.fo_ground.specs.Numbers.{tuple_count, fact_at}
use Rattle.fo_ground.proofs.atoms.push_facts.Goals as goal

pub tuples-requires : goal.tuples-requires
tuples-requires c =
    let has = All-get_or (HasSorts c.args.lay.now.sig.sorts) c.args.lay.now.sig.symbols c.args.symbol no_symbol c.requires.symbol c.requires.sig.sorts in
    rw (c.as_slice-sorts.ensures, c.as_slice-sizes.ensures, c.at-relation.ensures no_symbol) (λ k d lt. let h = has.args k d lt in omega (arith, h, c.requires.ready.sizes))

pub tuples-requires-2 : goal.tuples-requires-2
tuples-requires-2 c =
    let has = All-get_or (HasSorts c.args.lay.now.sig.sorts) c.args.lay.now.sig.symbols c.args.symbol no_symbol c.requires.symbol c.requires.sig.sorts in
    rw (c.as_slice-sorts.ensures, c.as_slice-sizes.ensures, c.at-relation.ensures no_symbol) (λ k d lt. let h = has.args k d lt in omega (arith, h, c.requires.ready.sizes))

pub arguments-requires-clause-sorts : goal.arguments-requires-clause-sorts
arguments-requires-clause-sorts c =
    let has = All-get_or (HasSorts c.args.lay.now.sig.sorts) c.args.lay.now.sig.symbols c.args.symbol no_symbol c.requires.symbol c.requires.sig.sorts in
    rw (c.as_slice-sorts.ensures, c.at-relation.ensures no_symbol) has.args

pub each-preserved : goal.each-preserved
each-preserved c =
    let same : c.args.lay.now.sizes ≡ term_counts c.args.lay.now.sig c.args.lay.now.copies = ap (λ (l : Layout). l.sizes) c.requires.same in
    let sorts : c.as_slice-sorts.result.now ≡ (symbol_at c.args.lay.now.sig c.args.symbol).args = c.as_slice-sorts.ensures ∙ ap (λ (s : Symbol). s.args) (c.at-relation.ensures no_symbol) in
    let tuples : c.in-Some-Some.tuples ≡ tuple_count c.args.lay.now.sig c.args.lay.now.copies c.args.u.now c.args.symbol =
    (let h : c.in-Some-Some.tuples ≡ 1 * power c.as_slice-sizes.result.now c.as_slice-sorts.result.now = c.in-Some-Some.ensures in omega (arith, h))
    ∙ ap (λ U. power U c.as_slice-sorts.result.now) (c.as_slice-sizes.ensures ∙ same) ∙ ap (power (term_counts c.args.lay.now.sig c.args.lay.now.copies)) sorts in
    let f = fact_at c.args.lay.now.sig c.args.lay.now.copies c.args.u.now c.args.symbol in
    let args = rw (sorts, tuples) at c.in_ok-args.ensures in
    let item : Fact c.args.symbol (c.each.number / c.in-Some-Some.tuples) c.in_ok-args.args ≡ fact_at c.args.lay.now.sig c.args.lay.now.copies c.args.u.now c.args.symbol c.each.number =
    ap (λ m. Fact c.args.symbol (c.each.number / m) c.in_ok-args.args) tuples ∙ ap (λ (xs : List ℕ). Fact c.args.symbol (c.each.number / tuple_count c.args.lay.now.sig c.args.lay.now.copies c.args.u.now c.args.symbol) xs) args in
    let more = map-range_with_len_more f 0 c.each.number c.each.number (omega arith) in
    rw (c.in_ok-push.ensures.items, c.each.invariant, item) (append_assoc c.args.atoms.now.items (map f (range_with_len 0 c.each.number)) (f c.each.number ∷ []) ∙ ap (λ xs. c.args.atoms.now.items ++ xs) (sym more))
