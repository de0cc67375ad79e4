-- A list whose elements are treated one after the other.
use Rattle.std.proofs.Common.{◌≡◌, ℕ, ◌+◌, ◌<◌, ◌≤◌, List, length, get_or, set, Some, slice_get, refl, sym, subst, ◌∙◌, arith}
use Rattle.std.proofs.lemmas.Option.{get_or_from_slice_get, slice_get-get_or}
use Rattle.up_core.specs.Mirror.{Pairs}
use Rattle.up_core.proofs.Changing.{change-none}
use Rattle.up_core.proofs.Pairing.{pairs-left, pairs-change, pairs-same, pairs-within}

module _ {X : Type 0} (L : X → X → Type 0) where
  -- those before place i are treated, and the others are as they were
  abbrev pub IsPart : ℕ → ℕ → X → X → Type 0
  IsPart i j x y = (j < i → L x y) × (i ≤ j → y ≡ x)

  pub part-init : (xs : List X) → Pairs xs xs (IsPart 0)
  part-init xs = pairs-same xs (IsPart 0) (λ k x. (λ lt. absurd (omega (arith, lt)), λ _. refl))

  pub part-at : (xs ys : List X) (i : ℕ) (d : X) → Pairs xs ys (IsPart i) → i < length ys → slice_get xs i ≡ Some (get_or ys i d)
  part-at xs ys i d h lt =
      let r = pairs-left xs ys (IsPart i) h i (get_or ys i d) (slice_get-get_or ys i d lt) in
      subst (λ x. slice_get xs i ≡ Some x) (sym (r.2.1 (omega arith))) r.1

  pub part-step : (xs ys : List X) (i : ℕ) (d z : X) → Pairs xs ys (IsPart i) → L (get_or ys i d) z → Pairs xs (set ys i z) (IsPart (i + 1))
  part-step xs ys i d z h new =
      subst (λ us. Pairs us (set ys i z) (IsPart (i + 1))) (change-none i xs)
      (pairs-change xs ys (IsPart i) (IsPart (i + 1)) i (λ x. x) z h
      (λ j x y apart r. (λ lt. r.0 (below j lt apart), λ le. r.1 (omega (arith, le))))
      (λ x y at_x at_y r. (
        λ _.
            let same = r.1 (omega arith) in
            subst (λ u. L u z) (get_or_from_slice_get ys i y d at_y ∙ same) new,
        λ le. absurd (omega (arith, le)),
      )))
    where
      below : (j : ℕ) → j < i + 1 → ¬ (j ≡ i) → j < i
      below j lt apart = omega (arith, lt, apart)

  pub part-end : (xs ys : List X) (i : ℕ) → length ys ≤ i → Pairs xs ys (IsPart i) → Pairs xs ys (λ _ x y. L x y)
  part-end xs ys i le h = pairs-within xs ys (IsPart i) (λ _ x y. L x y) (λ k x y lt r. r.0 (omega (arith, lt, le))) h
