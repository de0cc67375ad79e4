-- Where some world meets the query, it isn't so that none is the least.
use Rattle.std.proofs.Common.{◌≡◌, ℕ, zero, suc, ◌⊎◌, inl, inr, ◌<◌, ◌≤◌, List, [], ◌∷◌, length, refl, sym, ap, subst, ◌∙◌, arith}
use Rattle.std.proofs.lemmas.Bool.{cases_lt}
use Rattle.fo_core.specs.declared.query.Query.{Query}
use Rattle.fo_core.specs.declared.signature.Sig.{Sig}
use Rattle.fo_core.specs.declared.world.World.{World}
use Rattle.fo_core.specs.Finds.{HasWorld}
use Rattle.fo_core.specs.Queries.{MeetsQuery}
use Rattle.fo_core.specs.SortGraph.{ComesFirst}
use Rattle.fo_core.specs.Cells.{cells}
use Rattle.fo_core.specs.Least.{world_values, numbers_of, IsLeast}
use Rattle.fo_least.proofs.CellValues.{values-length}
use Rattle.fo_least.proofs.Lexicographic.{first-append}

-- where a number has a property, it isn't so that no number is the least that has it
least-number : (P : ℕ → Type 0) (n : ℕ) → P n → ((m : ℕ) → P m → ((k : ℕ) → k < m → ¬ P k) → ⊥) → ⊥
least-number P n p none = below (suc n) n (omega arith) p
  where
    below : (bound k : ℕ) → k < bound → P k → ⊥
    below zero k lt h = absurd (omega arith)
    below (suc b) k lt h = none k h (λ j less g. below b j (omega arith) g)

-- a list comes before all that have a property, if its first number is the least of theirs, and its
-- rest comes before the rest of each that begins with this number
before-all : (n : ℕ) (P : List ℕ → Type 0) (y : ℕ) (ys : List ℕ) →
    ((k : ℕ) → k < y → ¬ ((zs : List ℕ) × (length zs ≡ n) × P (k ∷ zs))) →
    ((zs : List ℕ) → length zs ≡ n → P (y ∷ zs) → ComesFirst ys zs) →
    (zs : List ℕ) → length zs ≡ suc n → P zs → ComesFirst (y ∷ ys) zs
before-all n P y ys fewer first [] e p = absurd (omega arith)
before-all n P y ys fewer first (z ∷ zs) e p = by_order (cases_lt y z) (cases_lt z y)
  where
    long : length zs ≡ n
    long = omega (arith, e)

    by_order : (y < z) ⊎ (z ≤ y) → (z < y) ⊎ (y ≤ z) → (y < z) ⊎ ((y ≡ z) × ComesFirst ys zs)
    by_order (inl lt) _ = inl lt
    by_order (inr le) (inl lt) = absurd (fewer z lt (zs, long, p))
    by_order (inr le) (inr ge) =
        let same : z ≡ y = omega (arith, le, ge) in
        inr (sym same, first zs long (subst (λ k. P (k ∷ zs)) same p))

-- so it is of lists of one length in lexicographic order
first-list : (n : ℕ) (P : List ℕ → Type 0) (xs : List ℕ) → length xs ≡ n → P xs →
    ((ys : List ℕ) → length ys ≡ n → P ys → ((zs : List ℕ) → length zs ≡ n → P zs → ComesFirst ys zs) → ⊥) → ⊥
first-list zero P [] e p none = none [] refl p (λ zs long q. tt)
first-list zero P (x ∷ xs) e p none = absurd (omega arith)
first-list (suc n) P [] e p none = absurd (omega arith)
first-list (suc n) P (x ∷ xs) e p none =
    least-number (λ y. (ys : List ℕ) × (length ys ≡ n) × P (y ∷ ys)) x (xs, omega (arith, e), p)
    (λ y has fewer.
    first-list n (λ zs. P (y ∷ zs)) has.0 has.1 has.2
    (λ ys long q first. none (y ∷ ys) (omega (arith, long)) q (before-all n P y ys fewer first)))

module _ (sig : Sig) (q : Query) where
  -- some world that meets the query has these sizes, and these values
  abbrev HasSizes : List ℕ → Type 0
  HasSizes sizes = (w : World) × MeetsQuery sig q w × (w.sizes ≡ sizes)

  abbrev HasNumbers : List ℕ → List ℕ → Type 0
  HasNumbers sizes values = (w : World) × MeetsQuery sig q w × (w.sizes ≡ sizes) × (world_values w ≡ values)

  abbrev value_count : List ℕ → ℕ
  value_count sizes = length (cells sig sizes q.copies)

  many-values : (w : World) (sizes : List ℕ) → MeetsQuery sig q w → w.sizes ≡ sizes → length (world_values w) ≡ value_count sizes
  many-values w sizes meets same =
      values-length sig w meets.fits
      ∙ ap (λ n. length (cells sig w.sizes n)) meets.copies
      ∙ ap (λ ns. length (cells sig ns q.copies)) same

  -- the world whose sizes come first, and of those with these sizes its values, is the least
  first-is-least : (sizes values : List ℕ) (w : World) → MeetsQuery sig q w → w.sizes ≡ sizes → world_values w ≡ values →
      ((ns : List ℕ) → length ns ≡ sig.sorts → HasSizes ns → ComesFirst sizes ns) →
      ((vs : List ℕ) → length vs ≡ value_count sizes → HasNumbers sizes vs → ComesFirst values vs) →
      IsLeast sig q w
  first-is-least sizes values w meets same its first_sizes first_values = record { meets = meets; first = first }
    where
      first : (v : World) → MeetsQuery sig q v → ComesFirst (numbers_of w) (numbers_of v)
      first v other =
          first-append w.sizes v.sizes (world_values w) (world_values v)
          (meets.fits.sorts ∙ sym other.fits.sorts)
          (subst (λ ns. ComesFirst ns v.sizes) (sym same) (first_sizes v.sizes other.fits.sorts (v, other, refl)))
          (λ alike.
          let as_these : v.sizes ≡ sizes = sym alike ∙ same in
          subst (λ vs. ComesFirst vs (world_values v)) (sym its)
          (first_values (world_values v) (many-values v sizes other as_these) (v, other, as_these, refl)))

  pub some-least : HasWorld sig q → ((w : World) → ¬ IsLeast sig q w) → ⊥
  some-least (u, meets) none =
      first-list sig.sorts HasSizes u.sizes meets.fits.sorts (u, meets, refl)
      (λ sizes long has first_sizes.
      first-list (value_count sizes) (HasNumbers sizes) (world_values has.0)
      (many-values has.0 sizes has.1 has.2) (has.0, has.1, has.2, refl)
      (λ values as_long its first_values.
      none its.0 (first-is-least sizes values its.0 its.1 its.2 its.3 first_sizes first_values)))
