-- First terms of classes, place by place, and how a search tells that a term begins a class.
use Rattle.std.proofs.Common.{◌≡◌, ℕ, zero, suc, Bool, true, false, cond, ◌+◌, ◌<◌, ◌≤◌, ◌⊎◌, inl, inr, not, List, [], ◌∷◌, ◌++◌, length, refl, sym, ap, ◌∙◌, arith, add-one, length-append}
use Rattle.std.specs.List.{All, list_any, position_or_len}
use Rattle.std.specs.Prelude.{◌==◌}
use Rattle.std.proofs.lemmas.Bool.Decides.{Decides-eqb}
use Rattle.fo_terms.specs.declared.terms.Ground.{Ground}
use Rattle.std.proofs.lemmas.Bool.{cases_lt}
use Rattle.std.proofs.lemmas.List.Elements.{All-nil, All-push}
use Rattle.std.proofs.lemmas.List.Folds.{list_any_none, list_any_at}
use Rattle.std.proofs.lemmas.List.Sums.{fails_before_first, passes_at_first, prefix_len-le-length}
use Rattle.fo_terms.specs.Universe.{IsOf, sort_at}
use Rattle.fo_ground.specs.Classes.{heads}

module _ (ts : List Ground) (at : ℕ → ℕ → List ℕ → ℕ) (same : ℕ → ℕ → Bool) (fact : ℕ → ℕ → List ℕ → Bool) (s n : ℕ) where
  pub heads-other : (sort_at ts n ≡ s → ⊥) → heads ts at same fact s (n + 1) ≡ heads ts at same fact s n
  heads-other other = ap (heads ts at same fact s) (add-one n) ∙ by_case (sort_at ts n == s) refl
    where
      by_case : (b : Bool) → (sort_at ts n == s) ≡ b →
          cond b (cond (list_any (λ q. same q n) (heads ts at same fact s n)) (heads ts at same fact s n) (heads ts at same fact s n ++ n ∷ [])) (heads ts at same fact s n) ≡ heads ts at same fact s n
      by_case true e = absurd (other ((Decides-eqb (sort_at ts n) s).0 e))
      by_case false e = refl

  heads-here : sort_at ts n ≡ s → heads ts at same fact s (n + 1) ≡ cond (list_any (λ q. same q n) (heads ts at same fact s n)) (heads ts at same fact s n) (heads ts at same fact s n ++ n ∷ [])
  heads-here is = ap (heads ts at same fact s) (add-one n)
      ∙ ap (λ b. cond b (cond (list_any (λ q. same q n) (heads ts at same fact s n)) (heads ts at same fact s n) (heads ts at same fact s n ++ n ∷ [])) (heads ts at same fact s n)) ((Decides-eqb (sort_at ts n) s).1 is)

  pub heads-known : sort_at ts n ≡ s → list_any (λ q. same q n) (heads ts at same fact s n) ≡ true → heads ts at same fact s (n + 1) ≡ heads ts at same fact s n
  heads-known is e = heads-here is ∙ ap (λ b. cond b (heads ts at same fact s n) (heads ts at same fact s n ++ n ∷ [])) e

  pub heads-new : sort_at ts n ≡ s → list_any (λ q. same q n) (heads ts at same fact s n) ≡ false → heads ts at same fact s (n + 1) ≡ heads ts at same fact s n ++ n ∷ []
  heads-new is e = heads-here is ∙ ap (λ b. cond b (heads ts at same fact s n) (heads ts at same fact s n ++ n ∷ [])) e

module _ (ts : List Ground) (at : ℕ → ℕ → List ℕ → ℕ) (same : ℕ → ℕ → Bool) (fact : ℕ → ℕ → List ℕ → Bool) (s : ℕ) where
  -- before the sort's first term there is none
  pub heads-none : (n : ℕ) → ((q : ℕ) → q < n → sort_at ts q ≡ s → ⊥) → heads ts at same fact s n ≡ []
  heads-none zero h = refl
  heads-none (suc n) h = ap (heads ts at same fact s) (sym (add-one n)) ∙ heads-other ts at same fact s n (h n (omega arith)) ∙ heads-none n (λ q lt. h q (omega arith))

  -- and behind its last term no more comes
  pub heads-stay : (n d : ℕ) → ((q : ℕ) → n ≤ q → q < n + d → sort_at ts q ≡ s → ⊥) → heads ts at same fact s (n + d) ≡ heads ts at same fact s n
  heads-stay n zero h = ap (heads ts at same fact s) (let z : n + 0 ≡ n = omega arith in z)
  heads-stay n (suc d) h =
      ap (heads ts at same fact s) (let z : n + suc d ≡ (n + d) + 1 = omega arith in z)
      ∙ heads-other ts at same fact s (n + d) (h (n + d) (omega arith) (omega arith)) ∙ heads-stay n d (λ q ge lt. h q ge (omega arith))

  -- there are no more of them than terms
  pub heads-few : (n : ℕ) → length (heads ts at same fact s n) ≤ n
  heads-few zero = omega arith
  heads-few (suc n) = by_sort (sort_at ts n == s) (list_any (λ q. same q n) (heads ts at same fact s n)) (heads-few n)
    where
      by_sort : (a b : Bool) → length (heads ts at same fact s n) ≤ n →
          length (cond a (cond b (heads ts at same fact s n) (heads ts at same fact s n ++ n ∷ [])) (heads ts at same fact s n)) ≤ suc n
      by_sort true true h = omega (arith, h)
      by_sort true false h = omega (arith, h, length-append (heads ts at same fact s n) (n ∷ []))
      by_sort false b h = omega (arith, h)

  -- all of them are terms of the sort
  pub heads-sorted : (n : ℕ) → n ≤ length ts → All (IsOf ts s) (heads ts at same fact s n)
  heads-sorted zero le = All-nil (IsOf ts s)
  heads-sorted (suc n) le = by_sort (sort_at ts n == s) refl (list_any (λ q. same q n) (heads ts at same fact s n)) (heads-sorted n (omega arith))
    where
      by_sort : (a : Bool) → (sort_at ts n == s) ≡ a → (b : Bool) → All (IsOf ts s) (heads ts at same fact s n) →
          All (IsOf ts s) (cond a (cond b (heads ts at same fact s n) (heads ts at same fact s n ++ n ∷ [])) (heads ts at same fact s n))
      by_sort true e true h = h
      by_sort true e false h = All-push (IsOf ts s) (heads ts at same fact s n) n h (omega arith, (Decides-eqb (sort_at ts n) s).0 e)
      by_sort false e b h = h

-- the place of the first that passes is behind all of them where none passes
module _ (p : ℕ → Bool) (xs : List ℕ) where
  pub none-passes : position_or_len p xs ≡ length xs → list_any p xs ≡ false
  none-passes e = list_any_none p xs (λ k d lt. fails_before_first p xs k d (omega arith))

  pub some-passes : (position_or_len p xs ≡ length xs → ⊥) → list_any p xs ≡ true
  some-passes n =
      let le : position_or_len p xs ≤ length xs = prefix_len-le-length (λ x. not (p x)) xs in
      let lt : position_or_len p xs < length xs = by_order (cases_lt (position_or_len p xs) (length xs)) le in
      list_any_at p xs (position_or_len p xs) 0 lt (passes_at_first p xs 0 lt)
    where
      by_order : (position_or_len p xs < length xs) ⊎ (length xs ≤ position_or_len p xs) → position_or_len p xs ≤ length xs → position_or_len p xs < length xs
      by_order (inl lt) le = lt
      by_order (inr ge) le = absurd (n (omega arith))

  pub position-le : position_or_len p xs ≤ length xs
  position-le = prefix_len-le-length (λ x. not (p x)) xs
