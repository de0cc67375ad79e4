-- The least world of a search whose queries are light has few elements: the sizes are claimed by an
-- existential for each element, and each of these is a node of the query.
use Rattle.std.proofs.Common.{◌≡◌, ℕ, zero, suc, ◌⊎◌, inl, inr, ◌+◌, ◌-◌, ◌<◌, ◌≤◌, true, List, [], ◌∷◌, ◌++◌, length, take, sum, refl, sym, ap, subst, ◌∙◌, arith}
use Rattle.std.specs.Prelude.{slice_index}
use Rattle.std.specs.List.{All, flat_map, range_with_len}
use Rattle.std.proofs.lemmas.Bool.{cases_lt}
use Rattle.std.proofs.lemmas.List.{take-take, take_all, take_more, get_or-take, length-take-le}
use Rattle.std.proofs.lemmas.List.Elements.{All-nil, All-cons, All-push, All-append}
use denote.Hole.Carrier.{hidden}
use Rattle.fo_core.specs.declared.formula.Formula.{Formula}
use Rattle.fo_core.specs.declared.formula.Formula.TheBlock.{shape-the_row-Formula-0, hidden-the_row-Formula-0}
use Rattle.fo_core.specs.declared.query.Query.{Query}
use Rattle.fo_core.specs.declared.signature.Sig.{Sig}
use Rattle.fo_core.specs.declared.world.World.{World}
use Rattle.fo_core.specs.Asked.{IsNextSize, AreNextSizes, size_trials, queries_for, IsAsked, at_first, for_size}
use Rattle.fo_core.specs.Finds.{IsLight}
use Rattle.fo_core.specs.Least.{IsLeast}
use Rattle.fo_core.specs.Over.{some_over}
use Rattle.fo_core.specs.Queries.{IsQuery}
use Rattle.fo_core.specs.QueryWeight.{cut, query_weight, signature_weight}
use Rattle.fo_core.specs.Skolems.{skolem_symbols_list, extended}
use Rattle.fo_core.specs.Sorted.{IsSig}
use Rattle.fo_core.specs.TermCounts.{term_counts}
use Rattle.fo_core.specs.Trials.{element_sorts, covers, have_values, claim_of, trial}
use Rattle.fo_core.specs.Cells.{cells}
use Rattle.fo_core.specs.Weights.{nodes, claim_nodes}
use Rattle.fo_core.specs.declared.formula.Formula.TheVariants as F
use Rattle.fo_core.proofs.ElementLemmas.{sorts-length}
use Rattle.fo_core.proofs.GrowingCounts.{added-append}
use Rattle.fo_core.proofs.ListFacts.{all_flat, all_range}
use Rattle.fo_core.proofs.Pieces.{map_more}
use Rattle.fo_least.proofs.LeastSettles.{least-sizes}

-- 1. A trial weighs at least as much as the elements that it names.

-- each existential is a node
node-more : (U : List ℕ) (s : ℕ) (f : Formula) → nodes U true (F.Ex s f) [] ≡ 1 + nodes U true f []
unfolding shape-the_row-Formula-0 hidden-the_row-Formula-0 hidden
node-more U s f = refl

over-nodes : (U ss : List ℕ) (f : Formula) → length ss ≤ nodes U true (some_over ss f) []
over-nodes U [] f = omega arith
over-nodes U (s ∷ ss) f = let rest = over-nodes U ss f in let more = node-more U s (some_over ss f) in omega (arith, rest, more)

last-node : (U : List ℕ) (fs : List Formula) (f : Formula) → nodes U true f [] ≤ claim_nodes U (fs ++ f ∷ [])
last-node U fs f = let parts = added-append (λ g. nodes U true g []) fs (f ∷ []) in omega (arith, parts)

below-cut : (n limit : ℕ) → cut n ≤ limit → limit < 18446744073709551615 → n ≤ limit
below-cut n limit light low = omega (arith, light, low)

trial-weighs : (sig : Sig) (q : Query) (sizes : List ℕ) (limit : ℕ) → limit < 18446744073709551615 → IsLight sig limit (trial sig q sizes []) → sum sizes ≤ limit
trial-weighs sig q sizes limit low light =
    let t = trial sig q sizes [] in
    let U = term_counts (extended sig (skolem_symbols_list true t.claims [])) q.copies in
    let f = claim_of sig q.copies sizes [] in
    let whole : claim_nodes U t.claims + signature_weight sig q.copies U ≤ limit = below-cut (claim_nodes U t.claims + signature_weight sig q.copies U) limit light low in
    let here : nodes U true f [] ≤ claim_nodes U t.claims = last-node U q.claims f in
    let named = over-nodes U (element_sorts sizes) (F.And (covers sizes ++ have_values sizes sig (cells sig sizes q.copies) [])) in
    let all = sorts-length sizes in
    sums (length (element_sorts sizes)) (sum sizes) (nodes U true f []) (claim_nodes U t.claims) (signature_weight sig q.copies U) all named here whole
  where
    sums : (a b c d e : ℕ) → a ≡ b → a ≤ c → c ≤ d → d + e ≤ limit → b ≤ limit
    sums a b c d e same p r s = omega (arith, same, p, r, s)

-- 2. Where no query of a search is the first above the limit, the trials of sizes are light.

module _ (sig : Sig) (q : Query) (limit : ℕ) where
  -- no query of a search for the least world is the first above the limit
  abbrev pub NoneAbove : Type 0
  NoneAbove = (before : List Query) (p : Query) → IsAsked sig q before p → All (IsLight sig limit) before → ¬ (limit < query_weight sig p)

  abbrev AreLight : List Query → Type 0
  AreLight = All (IsLight sig limit)

  pub light-of : NoneAbove → (before : List Query) (p : Query) → IsAsked sig q before p → AreLight before → IsLight sig limit p
  light-of none before p asked light = by (cases_lt limit (query_weight sig p))
    where
      by : (limit < query_weight sig p) ⊎ (query_weight sig p ≤ limit) → IsLight sig limit p
      by (inl above) = absurd (none before p asked light above)
      by (inr le) = le

  -- those of these first sizes
  abbrev AreLightFor : List ℕ → Type 0
  AreLightFor sizes = (k : ℕ) → k < length sizes → AreLight (size_trials sig q (take k sizes) (slice_index sizes k))

  light-queries : (sizes : List ℕ) → IsLight sig limit q → AreLightFor sizes → AreLight (queries_for sig q sizes [])
  light-queries sizes first each =
      let of_size : ℕ → List Query = λ k. size_trials sig q (take k sizes) (slice_index sizes k) in
      All-append (IsLight sig limit) (q ∷ flat_map of_size (range_with_len 0 (length sizes))) []
      (All-cons (IsLight sig limit) q (flat_map of_size (range_with_len 0 (length sizes))) first
      (all_flat (IsLight sig limit) of_size (range_with_len 0 (length sizes)) (all_range (λ k. AreLight (of_size k)) (length sizes) each)))
      (All-nil (IsLight sig limit))

  module _ (is : IsSig sig) (sorted : IsQuery sig q) (w : World) (least : IsLeast sig q w) (none : NoneAbove) where
    next : AreNextSizes sig q w.sizes
    next = least-sizes sig q is sorted w least

    first-light : IsLight sig limit q
    first-light = light-of none [] q at_first (All-nil (IsLight sig limit))

    -- what holds of the first sizes of all holds of them as a list
    of-front : (P : List ℕ → ℕ → Type 0) (s : ℕ) → s ≤ length w.sizes → ((k : ℕ) → k < s → P (take k w.sizes) (slice_index w.sizes k)) →
        (k : ℕ) → k < length (take s w.sizes) → P (take k (take s w.sizes)) (slice_index (take s w.sizes) k)
    of-front P s le each k lt =
        let long : length (take s w.sizes) ≡ s = length-take-le s w.sizes le in
        let below : k < s = omega (arith, lt, long) in
        let front : take k (take s w.sizes) ≡ take k w.sizes = take-take k s w.sizes (omega (arith, below)) in
        let here : slice_index (take s w.sizes) k ≡ slice_index w.sizes k = get_or-take s w.sizes k 0 below in
        subst (λ ns. P ns (slice_index (take s w.sizes) k)) (sym front) (subst (P (take k w.sizes)) (sym here) (each k below))

    -- the trials of the sizes of the first sorts
    abbrev AreLightBelow : ℕ → Type 0
    AreLightBelow s = (k : ℕ) → k < s → AreLight (size_trials sig q (take k w.sizes) (slice_index w.sizes k))

    module _ (s : ℕ) (lt : s < length w.sizes) (earlier : AreLightBelow s) where
      abbrev front : List ℕ
      front = take s w.sizes

      more : length front < sig.sorts
      more = let long : length (take s w.sizes) ≡ s = length-take-le s w.sizes (omega (arith, lt)) in let all = least.meets.fits.sorts in omega (arith, long, lt, all)

      asked : (n : ℕ) → n < slice_index w.sizes s → IsAsked sig q (queries_for sig q front [] ++ size_trials sig q front n) (trial sig q (front ++ (n + 1) ∷ []) [])
      asked n below =
          for_size front n (w, least.meets)
          (of-front (λ ns m. IsNextSize sig q ns m) s (omega (arith, lt)) (λ k less. next k (omega (arith, less, lt)))) more
          (λ m less. (next s lt).fewer (m + 1) (omega arith) (omega (arith, less, below)))

      one-light : (n : ℕ) → n < slice_index w.sizes s → AreLight (size_trials sig q front n) → IsLight sig limit (trial sig q (front ++ (n + 1) ∷ []) [])
      one-light n below before =
          light-of none (queries_for sig q front [] ++ size_trials sig q front n) (trial sig q (front ++ (n + 1) ∷ []) []) (asked n below)
          (All-append (IsLight sig limit) (queries_for sig q front []) (size_trials sig q front n)
          (light-queries front first-light (of-front (λ ns m. AreLight (size_trials sig q ns m)) s (omega (arith, lt)) earlier)) before)

      trials-light : (n : ℕ) → n ≤ slice_index w.sizes s → AreLight (size_trials sig q front n)
      trials-light zero le = All-nil (IsLight sig limit)
      trials-light (suc n) le =
          let before = trials-light n (omega (arith, le)) in
          let here = one-light n (omega (arith, le)) before in
          let both = subst AreLight (sym (map_more (λ m. trial sig q (front ++ (m + 1) ∷ []) []) n)) (All-push (IsLight sig limit) (size_trials sig q front n) (trial sig q (front ++ (n + 1) ∷ []) []) before here) in
          let same : n + 1 ≡ suc n = omega arith in
          subst (λ m. AreLight (size_trials sig q front m)) same both

      -- the size that the world has is tried, and its trial light
      last-light : IsLight sig limit (trial sig q (front ++ slice_index w.sizes s ∷ []) [])
      last-light =
          let n = slice_index w.sizes s in
          let positive : 1 ≤ n = (next s lt).positive in
          let below : n - 1 < n = omega (arith, positive) in
          let same : n - 1 + 1 ≡ n = omega (arith, positive) in
          subst (λ m. IsLight sig limit (trial sig q (front ++ m ∷ []) [])) same (one-light (n - 1) below (trials-light (n - 1) (omega arith)))

    one-more-light : (s : ℕ) → suc s ≤ length w.sizes → AreLightBelow s → AreLightBelow (suc s)
    one-more-light s le earlier k lt = by (cases_lt k s)
      where
        by : (k < s) ⊎ (s ≤ k) → AreLight (size_trials sig q (take k w.sizes) (slice_index w.sizes k))
        by (inl less) = earlier k less
        by (inr ge) =
            let same : s ≡ k = omega (arith, ge, lt) in
            subst (λ j. AreLight (size_trials sig q (take j w.sizes) (slice_index w.sizes j))) same (trials-light s (omega (arith, le)) earlier (slice_index w.sizes s) (omega arith))

    all-light : (s : ℕ) → s ≤ length w.sizes → AreLightBelow s
    all-light zero le = λ k lt. absurd (omega (arith, lt))
    all-light (suc s) le = one-more-light s le (all-light s (omega (arith, le)))

    -- so the least world has no more elements than the limit
    pub few-elements : limit < 18446744073709551615 → sum w.sizes ≤ limit
    few-elements low = by w.sizes refl
      where
        by : (sizes : List ℕ) → w.sizes ≡ sizes → sum w.sizes ≤ limit
        by [] same = let none_there : sum w.sizes ≡ 0 = ap sum same in omega (arith, none_there)
        by (n ∷ sizes) same =
            let long : length w.sizes ≡ suc (length sizes) = ap length same in
            let s = length sizes in
            let lt : s < length w.sizes = omega (arith, long) in
            let whole : take s w.sizes ++ slice_index w.sizes s ∷ [] ≡ w.sizes = sym (take_more w.sizes s 0 lt) ∙ take_all (s + 1) w.sizes (omega (arith, long)) in
            trial-weighs sig q w.sizes limit low (subst (λ ns. IsLight sig limit (trial sig q ns [])) whole (last-light s lt (all-light s (omega (arith, lt)))))
