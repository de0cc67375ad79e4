use Rattle.std.proofs.Common.{ℕ, ◌<◌, ◌^◌, List, [], length, get_or, sym, ap, subst, ◌∙◌, arith}
use Rattle.std.specs.List.{All, flat_map}
use Rattle.std.specs.Prelude.{slice_index}
use Rattle.std.proofs.lemmas.List.{take_all}
use Rattle.fo_core.specs.Tables.{symbol_at}
use Rattle.fo_core.specs.Weights.{added, power}
use Rattle.fo_norm.specs.Forms.{whole}
use Rattle.fo_terms.specs.declared.terms.Ground.{Ground}
use Rattle.fo_terms.specs.Arranged.{IsArranged}
use Rattle.fo_terms.specs.Blocks.{AreBases, AreFirsts, IsRanking, function_numbers, sort_block}
use Rattle.fo_core.specs.TermCounts.{term_counts}
use Rattle.fo_terms.specs.Universe.{IsUniverse}
use Rattle.fo_terms.proofs.Built.{arranged-built, bases, counted, sorts-known, sorts-once, sum-few, tuples-few, uncut, universe-built}
use Rattle.fo_terms.proofs.RankLemmas.{ranked-within}
use Rattle.fo_terms.proofs.build.universe_from.Goals as goal

pub firsts-requires-clause-sorts : goal.firsts-requires-clause-sorts
firsts-requires-clause-sorts c =
    let U = term_counts (whole c.args.sig.now c.args.form.now) c.args.form.now.copies in
    let same = c.as_slice-2.ensures ∙ uncut U c.args.counts c.requires.few c.requires.counts in
    let ranking = subst (IsRanking c.args.order.now.numbers) (sym c.as_slice.ensures.value) c.in_ok-ranked.ensures in
    subst (λ (xs : List ℕ). All (λ s. s < length xs) c.as_slice.result.now) (sym same)
    (sorts-known c.args.sig.now c.args.form.now c.args.order.now.numbers c.as_slice.result.now c.requires.sig c.requires.form c.requires.order ranking c.requires.few)

pub firsts-requires-clause-once : goal.firsts-requires-clause-once
firsts-requires-clause-once c =
    let ranking = subst (IsRanking c.args.order.now.numbers) (sym c.as_slice.ensures.value) c.in_ok-ranked.ensures in
    sorts-once c.args.sig.now c.args.form.now c.args.order.now.numbers c.as_slice.result.now c.requires.sig c.requires.form c.requires.order ranking c.requires.few

pub firsts-requires-clause-few : goal.firsts-requires-clause-few
firsts-requires-clause-few c =
    let U = term_counts (whole c.args.sig.now c.args.form.now) c.args.form.now.copies in
    let same = c.as_slice-2.ensures ∙ uncut U c.args.counts c.requires.few c.requires.counts in
    let ranking = subst (IsRanking c.args.order.now.numbers) (sym c.as_slice.ensures.value) c.in_ok-ranked.ensures in
    subst (λ (xs : List ℕ). added (slice_index xs) c.as_slice.result.now < 2 ^ 32) (sym same)
    (sum-few c.args.sig.now c.args.form.now c.args.order.now.numbers c.as_slice.result.now c.requires.sig c.requires.form c.requires.order ranking c.requires.few)

pub at-requires : goal.at-requires
at-requires c =
    let ranked = c.deref-sort-items.result.now in
    let ranking = subst (IsRanking c.args.order.now.numbers) (sym c.deref-sort-items.ensures.value) c.in_ok-ranked.ensures in
    let below = ranked-within c.args.order.now.numbers ranked ranking c.each.sort-index 0 c.each-test.true in
    omega (arith, below, c.requires.order.one_each, c.in_ok-functions.ensures.len)

pub push_sort-requires-clause-functions : goal.push_sort-requires-clause-functions
push_sort-requires-clause-functions c =
    let ranked = c.deref-sort-items.result.now in
    let ranking = subst (IsRanking c.args.order.now.numbers) (sym c.deref-sort-items.ensures.value) c.in_ok-ranked.ensures in
    let below = ranked-within c.args.order.now.numbers ranked ranking c.each.sort-index 0 c.each-test.true in
    c.as_slice-to_sort.ensures ∙ c.at.ensures [] ∙ c.in_ok-functions.ensures.each (get_or ranked c.each.sort-index 0) (omega (arith, below, c.requires.order.one_each))

pub push_sort-requires-clause-bases : goal.push_sort-requires-clause-bases
push_sort-requires-clause-bases c =
    let U = term_counts (whole c.args.sig.now c.args.form.now) c.args.form.now.copies in
    let exact = uncut U c.args.counts c.requires.few c.requires.counts in
    let firsts = c.in_ok-firsts.firsts in
    let ranked = c.as_slice.result.now in
    let ranking = subst (IsRanking c.args.order.now.numbers) (sym c.as_slice.ensures.value) c.in_ok-ranked.ensures in
    let at_first = subst (λ xs. AreFirsts ranked xs firsts) (c.as_slice-2.ensures ∙ exact) c.in_ok-firsts.ensures in
    subst (AreBases firsts) (sym exact) (bases c.args.sig.now c.args.form.now c.args.order.now.numbers ranked c.requires.sig c.requires.form c.requires.order ranking c.requires.few firsts at_first)

pub push_sort-requires-clause-sorts : goal.push_sort-requires-clause-sorts
push_sort-requires-clause-sorts c =
    let ranking = subst (IsRanking c.args.order.now.numbers) (sym c.as_slice.ensures.value) c.in_ok-ranked.ensures in
    counted c.args.sig.now c.args.form.now c.args.order.now.numbers c.as_slice.result.now c.requires.sig c.requires.form c.requires.order ranking c.requires.few c.args.counts c.requires.counts

pub push_sort-requires-clause-few : goal.push_sort-requires-clause-few
push_sort-requires-clause-few c =
    let S = whole c.args.sig.now c.args.form.now in
    let U = term_counts S c.args.form.now.copies in
    let exact = uncut U c.args.counts c.requires.few c.requires.counts in
    let firsts = c.in_ok-firsts.firsts in
    let ranked = c.as_slice.result.now in
    let ranking = subst (IsRanking c.args.order.now.numbers) (sym c.as_slice.ensures.value) c.in_ok-ranked.ensures in
    let at_first = subst (λ xs. AreFirsts ranked xs firsts) (c.as_slice-2.ensures ∙ exact) c.in_ok-firsts.ensures in
    let same = c.deref-sort-items.ensures.value ∙ sym c.as_slice.ensures.value in
    let t = get_or c.deref-sort-items.result.now c.each.sort-index 0 in
    let below : t < length c.args.order.now.numbers =
    ranked-within c.args.order.now.numbers c.deref-sort-items.result.now (subst (IsRanking c.args.order.now.numbers) (sym same) ranking) c.each.sort-index 0 c.each-test.true in
    let known : t < c.args.sig.now.sorts = omega (arith, c.requires.order.one_each) in
    let functions = c.as_slice-to_sort.ensures ∙ c.at.ensures [] ∙ c.in_ok-functions.ensures.each t known in
    let few = tuples-few c.args.sig.now c.args.form.now c.args.order.now.numbers ranked c.requires.sig c.requires.form c.requires.order ranking c.requires.few firsts at_first t known in
    subst (λ (ks : List ℕ). All (λ k. power c.args.counts (symbol_at S k).args < 2 ^ 32) ks) (sym functions)
    (subst (λ (xs : List ℕ). All (λ k. power xs (symbol_at S k).args < 2 ^ 32) (function_numbers S t)) (sym exact) few)

pub returns-clause-universe : goal.returns-clause-universe
returns-clause-universe c =
    let S = whole c.args.sig.now c.args.form.now in
    let n = c.args.form.now.copies in
    let U = term_counts S n in
    let exact = uncut U c.args.counts c.requires.few c.requires.counts in
    let firsts = c.in_ok-firsts.firsts in
    let ranked = c.as_slice.result.now in
    let ranking = subst (IsRanking c.args.order.now.numbers) (sym c.as_slice.ensures.value) c.in_ok-ranked.ensures in
    let at_first = subst (λ xs. AreFirsts ranked xs firsts) (c.as_slice-2.ensures ∙ exact) c.in_ok-firsts.ensures in
    let all = take_all c.each.sort-index c.deref-sort-items.result.now (omega arith) ∙ c.deref-sort-items.ensures.value ∙ sym c.as_slice.ensures.value in
    let terms = c.each.invariant ∙ ap (flat_map (sort_block firsts c.args.counts S n)) all ∙ ap (λ (xs : List ℕ). flat_map (sort_block firsts xs S n) ranked) exact in
    subst (IsUniverse S n) (sym terms) (universe-built c.args.sig.now c.args.form.now c.args.order.now.numbers ranked c.requires.sig c.requires.form c.requires.order ranking c.requires.few firsts at_first)

pub returns-clause-arranged : goal.returns-clause-arranged
returns-clause-arranged c =
    let S = whole c.args.sig.now c.args.form.now in
    let n = c.args.form.now.copies in
    let U = term_counts S n in
    let exact = uncut U c.args.counts c.requires.few c.requires.counts in
    let firsts = c.in_ok-firsts.firsts in
    let ranked = c.as_slice.result.now in
    let ranking = subst (IsRanking c.args.order.now.numbers) (sym c.as_slice.ensures.value) c.in_ok-ranked.ensures in
    let at_first = subst (λ xs. AreFirsts ranked xs firsts) (c.as_slice-2.ensures ∙ exact) c.in_ok-firsts.ensures in
    let all = take_all c.each.sort-index c.deref-sort-items.result.now (omega arith) ∙ c.deref-sort-items.ensures.value ∙ sym c.as_slice.ensures.value in
    let terms = c.each.invariant ∙ ap (flat_map (sort_block firsts c.args.counts S n)) all ∙ ap (λ (xs : List ℕ). flat_map (sort_block firsts xs S n) ranked) exact in
    subst (λ (ts : List Ground). IsArranged S n (record { terms = ts; firsts = firsts })) (sym terms)
    (arranged-built c.args.sig.now c.args.form.now c.args.order.now.numbers ranked c.requires.sig c.requires.form c.requires.order ranking c.requires.few firsts at_first)
