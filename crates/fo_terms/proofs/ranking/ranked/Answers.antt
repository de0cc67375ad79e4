use Rattle.std.proofs.Common.{rules, ◌≡◌, List, map, sym, ap, subst, ◌∙◌, arith}
use Rattle.std.specs.List.Sorted.{IsPermutation}
use Rattle.std.proofs.lemmas.List.{take_all}
use Rattle.std.proofs.lemmas.List.Sorted.{IsNonDecreasingBy-from_sort_by_key}
use Rattle.fo_terms.specs.declared.ranking.Entry.{Entry}
use Rattle.fo_terms.specs.Blocks.{IsRanking}
use Rattle.fo_terms.specs.Entries.{entries_of}
use Rattle.fo_terms.proofs.RankLemmas.{ranking-from}
use Rattle.fo_terms.proofs.ranking.ranked.Goals as goal

pub returns : goal.returns
returns c =
    let numbers = c.args.order.now.numbers in
    let es = c.sort_by_key.new.self.items in
    let permuted : IsPermutation (entries_of numbers) es = subst (λ (xs : List Entry). IsPermutation xs es) (c.in_ok-entries.ensures ∙ ap entries_of c.as_slice.ensures) c.in_ok-sort_by_key.ensures.permutation in
    let sorted = IsNonDecreasingBy-from_sort_by_key (λ (e : Entry). e.number) _ c.in_ok-sort_by_key.ensures.sorted (λ a r q k. search rules) in
    let all : c.each.ranked.items ≡ map (λ (e : Entry). e.sort) es =
    c.each.invariant ∙ ap (map (λ (e : Entry). e.sort)) (take_all c.each.entry-index _ (omega arith)) ∙ ap (map (λ (e : Entry). e.sort)) c.as_slice-entry-items.ensures.value in
    subst (IsRanking numbers) (sym all) (ranking-from numbers es permuted sorted)
