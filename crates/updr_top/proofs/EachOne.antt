-- What is so of each element, gathered by a loop.
use Rattle.std.proofs.Common.{◌≡◌, ◌⊎◌, ◌∙◌, ◌<◌, ◌≤◌, ◌+◌, ℕ, List, length, get_or, subst, inl, inr, arith}
use Rattle.std.proofs.lemmas.Bool.{cases_lt}
use Rattle.std.proofs.lemmas.List.{get_or_default}

-- one element more
pub one_more : {X : Type 0} (P : X → Type 0) (xs : List X) (i : ℕ) (x : X) → ((k : ℕ) (d : X) → k < i → P (get_or xs k d)) → i < length xs → x ≡ get_or xs i x → P x → (k : ℕ) (d : X) → k < i + 1 → P (get_or xs k d)
one_more {X = X} P xs i x before within is here k d lt = of (cases_lt k i)
  where
    of : (k < i) ⊎ (i ≤ k) → P (get_or xs k d)
    of (inl low) = before k d low
    of (inr high) =
        let same : i ≡ k = omega (arith, high, lt) in
        subst (λ (n : ℕ). P (get_or xs n d)) same (subst P (is ∙ get_or_default xs i x d within) here)
