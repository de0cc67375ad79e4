-- Lists that change at a place.
use Rattle.std.proofs.Common.{◌≡◌, ℕ, zero, suc, ◌≤◌, List, [], ◌∷◌, length, set, Option, Some, slice_get, refl, sym, ap, ◌∙◌, arith}
use Rattle.up_machine.specs.Replay.{change_at}
use Rattle.up_machine.proofs.Lists.{none_is_some, some_injective}
use Rattle.up_core.specs.Steps.{change_where}

module _ {X : Type 0} where
  -- a write at a place that is there
  pub set-is : (k : ℕ) (f : X → X) (xs : List X) (x : X) → slice_get xs k ≡ Some x → set xs k (f x) ≡ change_at k f xs
  set-is k f [] x e = none_is_some x e
  set-is zero f (a ∷ xs) x e = ap (λ y. f y ∷ xs) (sym (some_injective a x e))
  set-is (suc k) f (a ∷ xs) x e = ap (λ ys. a ∷ ys) (set-is k f xs x e)

  -- a place that isn't there
  pub past-is : (k : ℕ) (f : X → X) (xs : List X) → length xs ≤ k → xs ≡ change_at k f xs
  past-is k f [] le = refl
  past-is zero f (a ∷ xs) le = absurd (omega (arith, le))
  past-is (suc k) f (a ∷ xs) le = ap (λ ys. a ∷ ys) (past-is k f xs (omega (arith, le)))

  pub set-where : (o : Option ℕ) (k : ℕ) (f : X → X) (xs : List X) (x : X) → o ≡ Some k → slice_get xs k ≡ Some x → set xs k (f x) ≡ change_where o f xs
  set-where o k f xs x is e = set-is k f xs x e ∙ ap (λ p. change_where p f xs) (sym is)

  pub past-where : (o : Option ℕ) (k : ℕ) (f : X → X) (xs : List X) → o ≡ Some k → length xs ≤ k → xs ≡ change_where o f xs
  past-where o k f xs is le = past-is k f xs le ∙ ap (λ p. change_where p f xs) (sym is)

  -- nothing changes
  pub change-none : (k : ℕ) (xs : List X) → change_at k (λ x. x) xs ≡ xs
  change-none k [] = refl
  change-none zero (a ∷ xs) = refl
  change-none (suc k) (a ∷ xs) = ap (λ ys. a ∷ ys) (change-none k xs)
