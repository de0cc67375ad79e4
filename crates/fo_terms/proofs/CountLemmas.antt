-- Each sort has as many terms as functions to it are applied to such terms, or a spare constant.
use Rattle.std.proofs.Common.{◌≡◌, ℕ, zero, suc, Bool, true, false, cond, ltb, ◌+◌, ◌*◌, ◌<◌, ◌≤◌, List, [], ◌∷◌, length, get_or, map, set, ◌⊎◌, inl, inr, refl, sym, ap, subst, ◌∙◌, arith}
use Rattle.std.specs.List.{All}
use Rattle.std.specs.Prelude.{◌==◌, slice_index}
use Rattle.std.proofs.lemmas.Bool.{cases_lt, ltb-true, ltb-false}
use Rattle.std.proofs.lemmas.List.{ext_get_or, get_or-map, get_or-set_other, get_or-set_same, length-map}
use Rattle.std.proofs.lemmas.List.Elements.{All-filter, All-from_get_or, All-head, All-tail, filter_passes}
use Rattle.std.proofs.lemmas.List.FromFn.{get_or-map-range_with_len, length-map-range_with_len}
use Rattle.fo_core.specs.declared.signature.Sig.{Sig}
use Rattle.fo_core.specs.declared.signature.Symbol.{Symbol}
use Rattle.fo_core.specs.SortGraph.{FunctionEdge, Rises}
use Rattle.fo_core.specs.Sorted.{HasSorts}
use Rattle.fo_core.specs.Tables.{no_symbol, symbol_at}
use Rattle.fo_core.specs.Weights.{added, power}
use Rattle.fo_core.specs.TermCounts.{leads_to, copies_of, applications, functions_to, count_over, counts_within, term_counts, AreCounts}
use Rattle.fo_terms.specs.Blocks.{IsRanking}
use Rattle.fo_core.specs.QueryWeight.{cut}
use Rattle.fo_terms.proofs.Cuts.{cut-mul_left, cut-mul_right, cut-add}
use Rattle.fo_terms.proofs.Functions.{leads_to-true}
use Rattle.fo_terms.proofs.Rising.{rises-at}
use Rattle.fo_terms.proofs.RankLemmas.{ranked-at, ranked-once, ranked-within}
use Rattle.fo_terms.proofs.Sums.{added-same, added-const, power-same}

-- a sum of terms none of which is greater, and one of which is less
added-less : (f g : ℕ → ℕ) → ((x : ℕ) → f x ≤ g x) → (xs : List ℕ) → added f xs ≤ added g xs
added-less f g le [] = omega arith
added-less f g le (x ∷ xs) = omega (arith, le x, added-less f g le xs)

added-strict : (f g : ℕ → ℕ) → ((x : ℕ) → f x ≤ g x) → (xs : List ℕ) (i : ℕ) → i < length xs → f (get_or xs i 0) < g (get_or xs i 0) → added f xs < added g xs
added-strict f g le [] i lt less = absurd (omega arith)
added-strict f g le (x ∷ xs) zero lt less = omega (arith, added-less f g le xs)
added-strict f g le (x ∷ xs) (suc i) lt less = omega (arith, le x, added-strict f g le xs i (omega arith) less)

abbrev one_where : Bool → ℕ
one_where b = cond b 1 0

one_where-true : (m n : ℕ) → m < n → one_where (ltb m n) ≡ 1
one_where-true m n lt = by_test (ltb m n) refl
  where
    by_test : (b : Bool) → ltb m n ≡ b → one_where b ≡ 1
    by_test true e = refl
    by_test false e = absurd (omega (arith, ltb-false m n e))

one_where-false : (m n : ℕ) → n ≤ m → one_where (ltb m n) ≡ 0
one_where-false m n le = by_test (ltb m n) refl
  where
    by_test : (b : Bool) → ltb m n ≡ b → one_where b ≡ 0
    by_test true e = absurd (omega (arith, ltb-true m n e))
    by_test false e = refl

one_where-le : (b : Bool) → one_where b ≤ 1
one_where-le true = omega arith
one_where-le false = omega arith

module _ (numbers : List ℕ) where
  -- how many sorts have lower numbers
  abbrev lower : ℕ → ℕ
  lower t = added (λ m. one_where (ltb m (slice_index numbers t))) numbers

  lower-lt : (t : ℕ) → t < length numbers → lower t < length numbers
  lower-lt t lt =
      let n = slice_index numbers t in
      let less = added-strict (λ m. one_where (ltb m n)) (λ _. 1) (λ m. one_where-le (ltb m n)) numbers t lt (omega (arith, one_where-false n n (omega arith))) in
      omega (arith, less, added-const 1 numbers)

  lower-rises : (a t : ℕ) → a < length numbers → slice_index numbers a < slice_index numbers t → lower a < lower t
  lower-rises a t lt less =
      let m = slice_index numbers a in
      let n = slice_index numbers t in
      added-strict (λ x. one_where (ltb x m)) (λ x. one_where (ltb x n)) (λ x. weaker x m n (omega arith)) numbers a lt
      (omega (arith, one_where-false m m (omega arith), one_where-true m n less))
    where
      weaker : (x m n : ℕ) → m ≤ n → one_where (ltb x m) ≤ one_where (ltb x n)
      weaker x m n le = by_test (ltb x m) refl
        where
          by_test : (b : Bool) → ltb x m ≡ b → one_where b ≤ one_where (ltb x n)
          by_test true e = omega (arith, one_where-true x n (omega (arith, ltb-true x m e)))
          by_test false e = omega arith

-- cut numbers of terms give cut numbers of tuples
cut-power : (U V us : List ℕ) → All (λ s. slice_index V s ≡ cut (slice_index U s)) us → cut (power V us) ≡ cut (power U us)
cut-power U V [] h = refl
cut-power U V (s ∷ us) h =
    ap (λ n. cut (n * power V us)) (All-head (λ s. slice_index V s ≡ cut (slice_index U s)) s us h)
    ∙ cut-mul_left (slice_index U s) (power V us)
    ∙ sym (cut-mul_right (power V us) (slice_index U s))
    ∙ ap (λ n. cut (slice_index U s * n)) (cut-power U V us (All-tail (λ s. slice_index V s ≡ cut (slice_index U s)) s us h))
    ∙ cut-mul_right (power U us) (slice_index U s)

cut-added : {X : Type 0} (f g : X → ℕ) (xs : List X) → All (λ x. cut (f x) ≡ cut (g x)) xs → cut (added f xs) ≡ cut (added g xs)
cut-added f g [] h = refl
cut-added f g (x ∷ xs) h =
    sym (cut-add (f x) (added f xs))
    ∙ ap (λ n. cut (n + cut (added f xs))) (All-head (λ x. cut (f x) ≡ cut (g x)) x xs h)
    ∙ ap (λ n. cut (cut (g x) + n)) (cut-added f g xs (All-tail (λ x. cut (f x) ≡ cut (g x)) x xs h))
    ∙ cut-add (g x) (added g xs)

-- a function to the sort is applied equally often, or once cut
abbrev Same : ℕ → List ℕ → List ℕ → ℕ → Symbol → Type 0
Same copies U V t s = leads_to t s ≡ true → applications copies U s ≡ applications copies V s

abbrev CutSame : ℕ → List ℕ → List ℕ → ℕ → Symbol → Type 0
CutSame copies U V t s = leads_to t s ≡ true → cut (applications copies V s) ≡ cut (applications copies U s)

module _ (sig : Sig) (copies : ℕ) where
  pub cut-count : (U V : List ℕ) (t : ℕ) → ((k : ℕ) → k < length sig.symbols → leads_to t (symbol_at sig k) ≡ true → All (λ a. slice_index V a ≡ cut (slice_index U a)) (symbol_at sig k).args) → cut (count_over sig copies V t) ≡ cut (count_over sig copies U t)
  cut-count U V t same = by_length (length (functions_to sig t) == 0)
    where
      all : All (CutSame copies U V t) sig.symbols
      all = All-from_get_or (CutSame copies U V t) sig.symbols no_symbol (λ k lt leads.
          sym (cut-mul_right (power V (symbol_at sig k).args) (copies_of copies (symbol_at sig k)))
          ∙ ap (λ n. cut (copies_of copies (symbol_at sig k) * n)) (cut-power U V (symbol_at sig k).args (same k lt leads))
          ∙ cut-mul_right (power U (symbol_at sig k).args) (copies_of copies (symbol_at sig k)))

      each : All (λ s. cut (applications copies V s) ≡ cut (applications copies U s)) (functions_to sig t)
      each = λ i d lt. All-filter (leads_to t) (CutSame copies U V t) sig.symbols all i d lt (filter_passes (leads_to t) sig.symbols i d lt)

      by_length : (b : Bool) → cut (cond b 1 (added (applications copies V) (functions_to sig t))) ≡ cut (cond b 1 (added (applications copies U) (functions_to sig t)))
      by_length true = refl
      by_length false = cut-added (applications copies V) (applications copies U) (functions_to sig t) each

  -- what counts depends on: the sorts of the arguments of functions to the sort
  pub count-same : (U V : List ℕ) (t : ℕ) → ((k : ℕ) → k < length sig.symbols → leads_to t (symbol_at sig k) ≡ true → All (λ a. slice_index U a ≡ slice_index V a) (symbol_at sig k).args) → count_over sig copies U t ≡ count_over sig copies V t
  count-same U V t same = ap (λ n. cond (length (functions_to sig t) == 0) 1 n) (added-same (applications copies U) (applications copies V) (functions_to sig t) each)
    where
      all : All (Same copies U V t) sig.symbols
      all = All-from_get_or (Same copies U V t) sig.symbols no_symbol (λ k lt leads. ap (λ n. copies_of copies (symbol_at sig k) * n) (power-same U V (symbol_at sig k).args (same k lt leads)))

      each : All (λ s. applications copies U s ≡ applications copies V s) (functions_to sig t)
      each = λ i d lt. All-filter (leads_to t) (Same copies U V t) sig.symbols all i d lt (filter_passes (leads_to t) sig.symbols i d lt)

  pub within-length : (depth : ℕ) → length (counts_within sig copies (suc depth)) ≡ sig.sorts
  within-length depth = length-map-range_with_len (count_over sig copies (counts_within sig copies depth)) 0 sig.sorts

  pub within-at : (depth t : ℕ) → t < sig.sorts → slice_index (counts_within sig copies (suc depth)) t ≡ count_over sig copies (counts_within sig copies depth) t
  within-at depth t lt = get_or-map-range_with_len (count_over sig copies (counts_within sig copies depth)) 0 sig.sorts t t 0 lt (omega arith)

  counts-length : length (term_counts sig copies) ≡ sig.sorts
  counts-length = by_sorts sig.sorts refl
    where
      by_sorts : (n : ℕ) → sig.sorts ≡ n → length (counts_within sig copies n) ≡ sig.sorts
      by_sorts zero e = sym e
      by_sorts (suc n) e = within-length n

  module _ (numbers : List ℕ) (rises : Rises (FunctionEdge sig) sig.sorts numbers) (sorted : All (HasSorts sig.sorts) sig.symbols) where
    -- counts no longer change once functions nest as deep as there are sorts with lower numbers
    stable : (depth t : ℕ) → t < sig.sorts → lower numbers t < depth → slice_index (counts_within sig copies depth) t ≡ slice_index (counts_within sig copies (suc depth)) t
    stable zero t lt less = absurd (omega arith)
    stable (suc depth) t lt less = within-at depth t lt ∙ count-same (counts_within sig copies depth) (counts_within sig copies (suc depth)) t (same (λ a known below. stable depth a known below)) ∙ sym (within-at (suc depth) t lt)
      where
        same : ((a : ℕ) → a < sig.sorts → lower numbers a < depth → slice_index (counts_within sig copies depth) a ≡ slice_index (counts_within sig copies (suc depth)) a) → (k : ℕ) → k < length sig.symbols → leads_to t (symbol_at sig k) ≡ true → All (λ a. slice_index (counts_within sig copies depth) a ≡ slice_index (counts_within sig copies (suc depth)) a) (symbol_at sig k).args
        same earlier k within leads = λ i d below.
            let is = leads_to-true t (symbol_at sig k) leads in
            let a = get_or (symbol_at sig k).args i d in
            let lower_number = rises-at sig numbers rises k within is.0 i d below in
            let known = (sorted k no_symbol within).args i d below in
            let rising = lower-rises numbers a t (omega (arith, rises.one_each, known)) (subst (λ r. slice_index numbers a < slice_index numbers r) is.1 lower_number) in
            earlier a known (omega arith)

    pub counts-solve : AreCounts sig copies (term_counts sig copies)
    counts-solve = record {
      one_each = counts-length;
      each = λ t lt. stable sig.sorts t lt (omega (arith, lower-lt numbers t (omega (arith, rises.one_each)), rises.one_each)) ∙ within-at sig.sorts t lt;
    }

    module _ (ranked : List ℕ) (ranking : IsRanking numbers ranked) where
      -- the arguments of functions to a sort come before it
      pub before : (i k : ℕ) → i < length ranked → k < length sig.symbols → leads_to (get_or ranked i 0) (symbol_at sig k) ≡ true → (e d : ℕ) → e < length (symbol_at sig k).args → (j : ℕ) × (j < i) × (get_or ranked j 0 ≡ get_or (symbol_at sig k).args e d)
      before i k lt within leads e d below =
          let is = leads_to-true (get_or ranked i 0) (symbol_at sig k) leads in
          let a = get_or (symbol_at sig k).args e d in
          let known = (sorted k no_symbol within).args e d below in
          let place = ranked-at numbers ranked ranking a (omega (arith, rises.one_each)) in
          let rising = subst (λ r. slice_index numbers a < slice_index numbers r) is.1 (rises-at sig numbers rises k within is.0 e d below) in
          (place.0, earlier place.0 place.1 place.2 rising (cases_lt place.0 i), place.2)
        where
          earlier : {a : ℕ} (j : ℕ) → j < length ranked → get_or ranked j 0 ≡ a → slice_index numbers a < slice_index numbers (get_or ranked i 0) → (j < i) ⊎ (i ≤ j) → j < i
          earlier j less here rising (inl yes_it_is) = yes_it_is
          earlier j less here rising (inr le) = absurd (omega (arith, ranking.rising i j le less, ap (slice_index numbers) here))

      module _ (counts : List ℕ) (i : ℕ) (lt : i < length ranked) (len : length counts ≡ sig.sorts)
          (counted : (j : ℕ) → j < i → slice_index counts (get_or ranked j 0) ≡ cut (slice_index (term_counts sig copies) (get_or ranked j 0))) where
        abbrev t : ℕ
        t = get_or ranked i 0

        pub count-here : cut (count_over sig copies counts t) ≡ cut (slice_index (term_counts sig copies) t)
        count-here =
            cut-count (term_counts sig copies) counts t
            (λ k within leads e d below. let j = before i k lt within leads e d below in subst (λ a. slice_index counts a ≡ cut (slice_index (term_counts sig copies) a)) j.2 (counted j.0 j.1))
            ∙ ap cut (sym (counts-solve.each t (let below = ranked-within numbers ranked ranking i 0 lt in omega (arith, rises.one_each))))

        pub count-more : (count : ℕ) → count ≡ cut (count_over sig copies counts t) → (j : ℕ) → j < i + 1 → slice_index (set counts t count) (get_or ranked j 0) ≡ cut (slice_index (term_counts sig copies) (get_or ranked j 0))
        count-more count is j less = by_place (cases_lt j i)
          where
            within : t < length counts
            within = let below = ranked-within numbers ranked ranking i 0 lt in omega (arith, rises.one_each)

            by_place : (j < i) ⊎ (i ≤ j) → slice_index (set counts t count) (get_or ranked j 0) ≡ cut (slice_index (term_counts sig copies) (get_or ranked j 0))
            by_place (inl below) = get_or-set_other counts t (get_or ranked j 0) count 0 (λ e. ranked-once numbers ranked ranking j i below lt e) ∙ counted j below
            by_place (inr le) =
                let e : i ≡ j = omega arith in
                subst (λ j. slice_index (set counts t count) (get_or ranked j 0) ≡ cut (slice_index (term_counts sig copies) (get_or ranked j 0))) e
                (get_or-set_same counts t count 0 within ∙ is ∙ count-here)

      pub counts-done : (counts : List ℕ) (i : ℕ) → length ranked ≤ i → length counts ≡ sig.sorts → ((j : ℕ) → j < i → slice_index counts (get_or ranked j 0) ≡ cut (slice_index (term_counts sig copies) (get_or ranked j 0))) → counts ≡ map cut (term_counts sig copies)
      counts-done counts i le len counted =
          ext_get_or 0 counts (map cut (term_counts sig copies)) (len ∙ sym counts-length ∙ sym (length-map (term_counts sig copies) cut))
          (λ s lt.
          let place = ranked-at numbers ranked ranking s (omega (arith, rises.one_each)) in
          subst (λ s. slice_index counts s ≡ cut (slice_index (term_counts sig copies) s)) place.2 (counted place.0 (omega (arith, place.1)))
          ∙ sym (get_or-map cut (term_counts sig copies) s 0 0 (omega (arith, counts-length))))
