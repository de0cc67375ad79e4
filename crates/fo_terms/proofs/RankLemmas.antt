-- The sorts in an order in which their numbers never fall.
use Rattle.std.proofs.Common.{◌≡◌, ◌≢◌, ℕ, zero, suc, Bool, true, false, cond, ◌+◌, ◌<◌, ◌≤◌, ◌⊎◌, inl, inr, List, [], ◌∷◌, length, get_or, map, sum, refl, sym, ap, subst, ◌∙◌, arith, true≢false}
use Rattle.std.specs.List.{All, AllPairs, Contains, range_with_len, sum_by}
use Rattle.std.specs.List.Sorted.{IsPermutation, IsNonDecreasingBy}
use Rattle.std.specs.Prelude.{◌==◌, slice_index}
use Rattle.std.proofs.lemmas.Bool.Decides.{Decides-eqb}
use Rattle.std.proofs.lemmas.List.{get_or-map, get_or_default, length-map}
use Rattle.std.proofs.lemmas.List.Elements.{All-from_get_or, All-map, Contains-get_or}
use Rattle.std.proofs.lemmas.List.FromFn.{fill_by_all, get_or-range_with_len, length-range_with_len}
use Rattle.std.proofs.lemmas.List.Sorted.{All-permutation, Contains-permutation, IsPermutation-map, length_permutation, sum_by-IsPermutation}
use Rattle.std.proofs.lemmas.List.Sums.{sum_by-cons}
use Rattle.fo_core.specs.Weights.{added}
use Rattle.fo_terms.specs.declared.ranking.Entry.{Entry}
use Rattle.fo_terms.specs.Blocks.{IsRanking}
use Rattle.fo_terms.specs.Entries.{entry_of, entries_of}
use Rattle.fo_terms.proofs.Sums.{added-at, added-map}

pub added-sum_by : {X : Type 0} (f : X → ℕ) (xs : List X) → added f xs ≡ sum_by f xs
added-sum_by f [] = refl
added-sum_by f (x ∷ xs) = ap (λ n. f x + n) (added-sum_by f xs) ∙ sym (sum_by-cons f x xs)

-- sums don't mind the order
pub added-permuted : {X : Type 0} (f : X → ℕ) (xs ys : List X) → IsPermutation xs ys → added f ys ≡ added f xs
added-permuted f xs ys p = added-sum_by f ys ∙ sum_by-IsPermutation f xs ys p ∙ sym (added-sum_by f xs)

-- how often a number stands in a list
abbrev one_where : Bool → ℕ
one_where b = cond b 1 0

module _ (s : ℕ) where
  abbrev is_it : ℕ → ℕ
  is_it x = one_where (x == s)

  is_it-itself : (x : ℕ) → x ≡ s → is_it x ≡ 1
  is_it-itself x e = ap one_where ((Decides-eqb x s).1 e)

  is_it-cases : (x : ℕ) → ((x ≡ s) × (is_it x ≡ 1)) ⊎ ((x ≡ s → ⊥) × (is_it x ≡ 0))
  is_it-cases x = by_test (x == s) refl
    where
      by_test : (b : Bool) → (x == s) ≡ b → ((x ≡ s) × (one_where b ≡ 1)) ⊎ ((x ≡ s → ⊥) × (one_where b ≡ 0))
      by_test true e = inl ((Decides-eqb x s).0 e, refl)
      by_test false e = inr (λ same. absurd (true≢false (sym ((Decides-eqb x s).1 same) ∙ e)), refl)

  -- a range has it at most once
  in_range : (a n : ℕ) → (added is_it (range_with_len a n) ≤ 1) × (s < a → added is_it (range_with_len a n) ≡ 0)
  in_range a zero = (omega arith, λ _. refl)
  in_range a (suc n) = by_case (is_it-cases a) (in_range (a + 1) n)
    where
      by_case : ((a ≡ s) × (is_it a ≡ 1)) ⊎ ((a ≡ s → ⊥) × (is_it a ≡ 0)) → (added is_it (range_with_len (a + 1) n) ≤ 1) × (s < a + 1 → added is_it (range_with_len (a + 1) n) ≡ 0) →
          (is_it a + added is_it (range_with_len (a + 1) n) ≤ 1) × (s < a → is_it a + added is_it (range_with_len (a + 1) n) ≡ 0)
      by_case (inl here) rest = let none = rest.1 (omega (arith, here.0)) in (omega (arith, here.1, none), λ lt. absurd (omega (arith, here.0)))
      by_case (inr other) rest = (omega (arith, other.1, rest.0), λ lt. let none = rest.1 (omega arith) in omega (arith, other.1, none))

  -- two places that have it
  twice : (xs : List ℕ) (i j : ℕ) → i < j → j < length xs → get_or xs i 0 ≡ s → get_or xs j 0 ≡ s → 2 ≤ added is_it xs
  twice [] i j lt within e f = absurd (omega arith)
  twice (x ∷ xs) zero zero lt within e f = absurd (omega arith)
  twice (x ∷ xs) zero (suc j) lt within e f =
      let some = added-at is_it xs j 0 (omega arith) in
      omega (arith, some, is_it-itself x e, is_it-itself (get_or xs j 0) f)
  twice (x ∷ xs) (suc i) zero lt within e f = absurd (omega arith)
  twice (x ∷ xs) (suc i) (suc j) lt within e f = omega (arith, twice xs i j (omega arith) (omega arith) e f)

entries-sorts : (numbers ss : List ℕ) → map (λ (e : Entry). e.sort) (map (entry_of numbers) ss) ≡ ss
entries-sorts numbers [] = refl
entries-sorts numbers (s ∷ ss) = ap (λ ts. s ∷ ts) (entries-sorts numbers ss)

-- what sorting the entries by number gives
pub ranking-from : (numbers : List ℕ) (es : List Entry) → IsPermutation (entries_of numbers) es → IsNonDecreasingBy (λ (e : Entry). e.number) es → IsRanking numbers (map (λ (e : Entry). e.sort) es)
ranking-from numbers es permuted sorted = record {
  sorts = subst (λ ss. IsPermutation ss (map (λ (e : Entry). e.sort) es)) (entries-sorts numbers (range_with_len 0 (length numbers))) (IsPermutation-map (λ (e : Entry). e.sort) (entries_of numbers) es permuted);
  rising = rising;
}
  where
    none : Entry
    none = record { number = 0; sort = 0 }

    told : All (λ (e : Entry). slice_index numbers e.sort ≡ e.number) es
    told = All-permutation (λ (e : Entry). slice_index numbers e.sort ≡ e.number) (entries_of numbers) es permuted
        (All-map (λ (e : Entry). slice_index numbers e.sort ≡ e.number) (entry_of numbers) (range_with_len 0 (length numbers)) (λ i d lt. refl))

    number_at : (i : ℕ) → i < length es → slice_index numbers (get_or (map (λ (e : Entry). e.sort) es) i 0) ≡ (get_or es i none).number
    number_at i lt = ap (slice_index numbers) (get_or-map (λ (e : Entry). e.sort) es i none 0 lt) ∙ told i none lt

    rising : (i j : ℕ) → i ≤ j → j < length (map (λ (e : Entry). e.sort) es) → slice_index numbers (get_or (map (λ (e : Entry). e.sort) es) i 0) ≤ slice_index numbers (get_or (map (λ (e : Entry). e.sort) es) j 0)
    rising i j le lt =
        let within : j < length es = omega (arith, length-map es (λ (e : Entry). e.sort)) in
        let up = sorted i j none le within in
        omega (arith, number_at i (omega arith), number_at j within, up)

module _ (numbers ranked : List ℕ) (ranking : IsRanking numbers ranked) where
  pub ranked-length : length ranked ≡ length numbers
  ranked-length = length_permutation (range_with_len 0 (length numbers)) ranked ranking.sorts ∙ length-range_with_len 0 (length numbers)

  pub ranked-within : All (λ s. s < length numbers) ranked
  ranked-within = All-permutation (λ s. s < length numbers) (range_with_len 0 (length numbers)) ranked ranking.sorts
      (All-from_get_or (λ s. s < length numbers) (range_with_len 0 (length numbers)) 0
      (λ i lt. let below : i < length numbers = omega (arith, length-range_with_len 0 (length numbers)) in omega (arith, get_or-range_with_len 0 (length numbers) i 0 below)))

  -- each sort has a place
  pub ranked-at : (s : ℕ) → s < length numbers → (i : ℕ) × (i < length ranked) × (get_or ranked i 0 ≡ s)
  ranked-at s lt =
      let all = range_with_len 0 (length numbers) in
      let here : get_or all s 0 ≡ s = omega (arith, get_or-range_with_len 0 (length numbers) s 0 lt) in
      let there : Contains all s = subst (Contains all) here (Contains-get_or all s 0 (omega (arith, length-range_with_len 0 (length numbers)))) in
      let h = Contains-permutation all ranked s ranking.sorts there in
      (h.0, h.1, get_or_default ranked h.0 0 s h.1 ∙ h.2)

  -- and one alone
  pub ranked-once : (i j : ℕ) → i < j → j < length ranked → get_or ranked i 0 ≡ get_or ranked j 0 → ⊥
  ranked-once i j lt within e =
      let s = get_or ranked j 0 in
      let some = twice s ranked i j lt within e refl in
      let same = added-permuted (is_it s) (range_with_len 0 (length numbers)) ranked ranking.sorts in
      omega (arith, some, same, (in_range s 0 (length numbers)).0)

  pub ranked-distinct : AllPairs (λ s t. s ≢ t) ranked
  ranked-distinct i j d lt within = λ e.
      ranked-once i j lt within (get_or_default ranked i 0 d (omega arith) ∙ e ∙ get_or_default ranked j d 0 within)

  pub ranked-sum : (f : ℕ → ℕ) → added f ranked ≡ added f (range_with_len 0 (length numbers))
  ranked-sum f = added-permuted f (range_with_len 0 (length numbers)) ranked ranking.sorts

  -- what the sorts have adds up alike in each order
  pub ranked-total : (xs : List ℕ) → length xs ≡ length numbers → added (slice_index xs) ranked ≡ sum xs
  ranked-total xs len =
      ranked-sum (slice_index xs)
      ∙ ap (λ m. added (slice_index xs) (range_with_len 0 m)) (sym len)
      ∙ sym (added-map (λ x. x) (slice_index xs) (range_with_len 0 (length xs)))
      ∙ ap (added (λ x. x)) (sym (fill_by_all (slice_index xs) xs (length xs) 0 refl (λ k lt. refl)))
      ∙ added-sum_by (λ x. x) xs
