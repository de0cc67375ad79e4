-- What the building of the universe of a form rests on.
use Rattle.std.proofs.Common.{◌≡◌, ◌≢◌, ℕ, ◌<◌, ◌^◌, List, length, get_or, map, sym, ap, ◌∙◌, arith}
use Rattle.std.specs.List.{All, AllPairs, flat_map}
use Rattle.std.specs.Prelude.{slice_index}
use Rattle.std.proofs.lemmas.List.Elements.{All-weaker}
use Rattle.fo_core.specs.declared.signature.Sig.{Sig}
use Rattle.fo_core.specs.SortGraph.{FunctionEdge, Rises}
use Rattle.fo_core.specs.Sorted.{IsSig}
use Rattle.fo_core.specs.Tables.{symbol_at}
use Rattle.fo_core.specs.Weights.{added, power}
use Rattle.fo_norm.specs.declared.form.SkolemForm.{SkolemForm}
use Rattle.fo_norm.specs.Forms.{whole, IsForm}
use Rattle.fo_terms.specs.Arranged.{IsArranged}
use Rattle.fo_terms.specs.Blocks.{AreBases, AreFirsts, IsRanking, function_numbers, sort_block}
use Rattle.fo_core.specs.TermCounts.{term_counts, AreCounts}
use Rattle.fo_terms.specs.FormWeight.{AreFew}
use Rattle.fo_terms.specs.Universe.{IsUniverse}
use Rattle.fo_core.specs.QueryWeight.{cut}
use Rattle.fo_terms.proofs.CountLemmas.{counts-solve}
use Rattle.fo_terms.proofs.Cuts.{cut-small, map_cut-small}
use Rattle.fo_terms.proofs.Functions.{numbers-are, whole_few, whole_sorts}
use Rattle.fo_terms.proofs.RankLemmas.{ranked-distinct, ranked-total, ranked-within}
use Rattle.fo_terms.proofs.UniverseLemmas.{ends-within, is-arranged, is-universe, positive, tuples-within}

-- few counts are not cut
pub uncut : (U counts : List ℕ) → AreFew U → counts ≡ map cut U → counts ≡ U
uncut U counts few is = is ∙ map_cut-small U (λ k lt. cut-small (get_or U k 0) (omega (arith, few.each k 0 lt)))

module _ (sig : Sig) (form : SkolemForm) (numbers ranked : List ℕ) (is : IsSig sig) (of : IsForm sig form) (rises : Rises (FunctionEdge (whole sig form)) sig.sorts numbers)
    (ranking : IsRanking numbers ranked) (few : AreFew (term_counts (whole sig form) form.copies)) where
  abbrev S : Sig
  S = whole sig form

  abbrev U : List ℕ
  U = term_counts S form.copies

  solved : AreCounts S form.copies U
  solved = counts-solve S form.copies numbers rises (whole_sorts sig form is of)

  -- there is a number for each sort
  pub counted : (counts : List ℕ) → counts ≡ map cut U → length counts ≡ sig.sorts
  counted counts e = ap length (uncut U counts few e) ∙ solved.one_each

  pub sorts-known : All (λ s. s < length U) ranked
  sorts-known = All-weaker (λ s. s < length numbers) (λ s. s < length U) (λ s lt. omega (arith, rises.one_each, solved.one_each)) ranked (ranked-within numbers ranked ranking)

  pub sorts-once : AllPairs (λ s t. s ≢ t) ranked
  sorts-once = ranked-distinct numbers ranked ranking

  pub sum-few : added (slice_index U) ranked < 2 ^ 32
  sum-few = omega (arith, few.all, ranked-total numbers ranked ranking U (solved.one_each ∙ sym rises.one_each))

  module _ (firsts : List ℕ) (at_first : AreFirsts ranked U firsts) where
    pub bases : AreBases firsts U
    bases = record {
      one_each = at_first.one_each;
      some = λ s lt. positive S form.copies numbers ranked firsts of.copies (whole_few sig form of) (whole_sorts sig form is of) rises ranking at_first s (omega (arith, solved.one_each));
      few = λ s lt. omega (arith, few.all, ends-within S form.copies numbers ranked firsts of.copies (whole_few sig form of) (whole_sorts sig form is of) rises ranking at_first s (omega (arith, solved.one_each)));
    }

    pub tuples-few : (t : ℕ) → t < sig.sorts → All (λ k. power U (symbol_at S k).args < 2 ^ 32) (function_numbers S t)
    tuples-few t lt = λ i d below.
        let are = numbers-are S t i d below in
        let k = get_or (function_numbers S t) i d in
        let le = tuples-within S form.copies numbers ranked firsts of.copies (whole_few sig form of) (whole_sorts sig form is of) rises ranking at_first k are.0 are.1 in
        omega (arith, le, ap (slice_index U) are.2, few.each t 0 (omega (arith, solved.one_each)))

    pub universe-built : IsUniverse S form.copies (flat_map (sort_block firsts U S form.copies) ranked)
    universe-built = is-universe S form.copies numbers ranked firsts of.copies (whole_few sig form of) (whole_sorts sig form is of) rises ranking at_first

    pub arranged-built : IsArranged S form.copies (record { terms = flat_map (sort_block firsts U S form.copies) ranked; firsts = firsts })
    arranged-built = is-arranged S form.copies numbers ranked firsts of.copies (whole_few sig form of) (whole_sorts sig form is of) rises ranking at_first
