use Rattle.std.proofs.Common.{◌≡◌, [], length, get_or, sym, ap, subst, ◌∙◌, arith, length-set}
use Rattle.fo_norm.specs.Forms.{whole}
use Rattle.fo_terms.specs.Blocks.{IsRanking}
use Rattle.fo_core.specs.TermCounts.{count_over}
use Rattle.fo_core.specs.QueryWeight.{cut}
use Rattle.fo_terms.proofs.CountLemmas.{counts-solve, count-more, counts-done}
use Rattle.fo_terms.proofs.Functions.{whole_sorts}
use Rattle.fo_terms.proofs.RankLemmas.{ranked-within}
use Rattle.fo_terms.proofs.counting.counts.Goals as goal

pub returns-clause-equations : goal.returns-clause-equations
returns-clause-equations c =
    let S = whole c.args.sig.now c.args.form.now in
    counts-solve S c.args.form.now.copies c.args.order.now.numbers c.requires.order (whole_sorts c.args.sig.now c.args.form.now c.requires.sig c.requires.form)

pub at-requires : goal.at-requires
at-requires c =
    let ranked = c.deref-sort-items.result.now in
    let ranking = subst (IsRanking c.args.order.now.numbers) (sym c.deref-sort-items.ensures.value) c.in_ok-ranked.ensures in
    let below = ranked-within c.args.order.now.numbers ranked ranking c.each.sort-index 0 c.each-test.true in
    omega (arith, below, c.requires.order.one_each, c.in_ok-functions.ensures.len)

pub sort_count-count-requires-clause-functions : goal.sort_count-count-requires-clause-functions
sort_count-count-requires-clause-functions c =
    let ranked = c.deref-sort-items.result.now in
    let ranking = subst (IsRanking c.args.order.now.numbers) (sym c.deref-sort-items.ensures.value) c.in_ok-ranked.ensures in
    let below = ranked-within c.args.order.now.numbers ranked ranking c.each.sort-index 0 c.each-test.true in
    c.as_slice-to_sort.ensures ∙ c.at.ensures [] ∙ c.in_ok-functions.ensures.each (get_or ranked c.each.sort-index 0) (omega (arith, below, c.requires.order.one_each))

pub index_mut-requires : goal.index_mut-requires
index_mut-requires c =
    let ranked = c.deref-sort-items.result.now in
    let ranking = subst (IsRanking c.args.order.now.numbers) (sym c.deref-sort-items.ensures.value) c.in_ok-ranked.ensures in
    let below = ranked-within c.args.order.now.numbers ranked ranking c.each.sort-index 0 c.each-test.true in
    let len : length c.each.counts.items ≡ c.args.sig.now.sorts = c.each.invariant.len in
    omega (arith, below, c.requires.order.one_each)

pub each-preserved : goal.each-preserved
each-preserved c =
    let sig = c.args.sig.now in
    let form = c.args.form.now in
    let S = whole sig form in
    let sorted = whole_sorts sig form c.requires.sig c.requires.form in
    let numbers = c.args.order.now.numbers in
    let ranked = c.deref-sort-items.result.now in
    let ranking = subst (IsRanking numbers) (sym c.deref-sort-items.ensures.value) c.in_ok-ranked.ensures in
    let count = c.sort_count-count.ensures ∙ ap (λ xs. cut (count_over S form.copies xs (get_or ranked c.each.sort-index 0))) c.as_slice.ensures.value in
    record {
      len = length-set c.each.counts.items (get_or ranked c.each.sort-index 0) c.sort_count-count.result ∙ c.each.invariant.len;
      counted = count-more S form.copies numbers c.requires.order sorted ranked ranking c.each.counts.items c.each.sort-index c.each-test.true c.each.invariant.len c.each.invariant.counted c.sort_count-count.result count;
    }

pub returns-clause-counts : goal.returns-clause-counts
returns-clause-counts c =
    let sig = c.args.sig.now in
    let form = c.args.form.now in
    let S = whole sig form in
    let sorted = whole_sorts sig form c.requires.sig c.requires.form in
    let numbers = c.args.order.now.numbers in
    let ranked = c.deref-sort-items.result.now in
    let ranking = subst (IsRanking numbers) (sym c.deref-sort-items.ensures.value) c.in_ok-ranked.ensures in
    c.from_vec.ensures ∙ counts-done S form.copies numbers c.requires.order sorted ranked ranking c.each.counts.items c.each.sort-index (omega arith) c.each.invariant.len c.each.invariant.counted
