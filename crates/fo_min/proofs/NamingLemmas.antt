-- Namings, element by element.
use Rattle.std.proofs.Common.{◌≡◌, ℕ, ◌+◌, ◌<◌, ◌≤◌, List, [], ◌∷◌, ◌++◌, length, drop, get_or, refl, sym, ap, subst, ◌∙◌, add-one, append-nil, arith}
use Rattle.std.specs.Prelude.{slice_index, slice_index_or}
use Rattle.std.proofs.Math.Seq.{drop-cons}
use Rattle.std.proofs.lemmas.List.{drop_all}
use Rattle.fo_core.specs.declared.world.World.{World}
use Rattle.fo_least.proofs.Naming.{IsNaming, named}
use Rattle.fo_min.specs.Known.{element_of, IsSortNamed}

module _ (name : ℕ → ℕ → ℕ) where
  named-none : (sorts : List ℕ) → named name sorts [] ≡ []
  named-none [] = refl
  named-none (s ∷ ss) = refl

  pub named_end : (sorts xs : List ℕ) (i : ℕ) → length xs ≤ i → named name (drop i sorts) (drop i xs) ≡ []
  named_end sorts xs i le = ap (named name (drop i sorts)) (drop_all i xs le) ∙ named-none (drop i sorts)

  pub named_last : (sorts xs : List ℕ) (i : ℕ) → length sorts ≤ i → named name (drop i sorts) (drop i xs) ≡ []
  named_last sorts xs i le = ap (λ ss. named name ss (drop i xs)) (drop_all i sorts le)

  pub named_step : (sorts xs : List ℕ) (i : ℕ) → i < length sorts → i < length xs →
      named name (drop i sorts) (drop i xs) ≡ name (get_or sorts i 0) (get_or xs i 0) ∷ named name (drop (i + 1) sorts) (drop (i + 1) xs)
  named_step sorts xs i in_ within = rw (add-one, drop-cons sorts i 0, drop-cons xs i 0) refl

  pub named-done : (sorts xs ys : List ℕ) (i : ℕ) → i ≡ length xs → ys ++ named name (drop i sorts) (drop i xs) ≡ named name sorts xs → ys ≡ named name sorts xs
  named-done sorts xs ys i e told = sym (append-nil ys) ∙ ap (λ us. ys ++ us) (sym (named_end sorts xs i (omega arith))) ∙ told

-- a naming of each sort is one of the world
pub naming-of : (w : World) (sizes : List ℕ) (names : List (List ℕ)) →
    ((s : ℕ) → s < length sizes → IsSortNamed (slice_index sizes s) (slice_index w.sizes s) (slice_index_or names s [])) →
    IsNaming w sizes (element_of names)
naming-of w sizes names each = record {
  within = λ s x known lt. (each s known).within x lt;
  covers = λ s y known lt. (each s known).covers y lt;
}

pub sort-named : (size s : ℕ) (most sizes own : List ℕ) (names : List (List ℕ)) → most ≡ sizes → own ≡ slice_index_or names s [] →
    IsSortNamed size (slice_index most s) own → IsSortNamed size (slice_index sizes s) (slice_index_or names s [])
sort-named size s most sizes own names e f h =
    subst (IsSortNamed size (slice_index sizes s)) f (subst (λ ns. IsSortNamed size (slice_index ns s) own) e h)
