-- There are no more elements than names that cover them.
use Rattle.std.proofs.Common.{◌≡◌, ℕ, zero, suc, cond, ltb, ◌⊎◌, inl, inr, ◌+◌, ◌-◌, ◌<◌, ◌≤◌, List, length, sym, ap, ◌∙◌, arith}
use Rattle.std.specs.Prelude.{slice_index}
use Rattle.std.proofs.lemmas.Bool.{cases_lt, cases_eq}
use Rattle.std.proofs.lemmas.Bool.Decides.{nat_tests}
use Rattle.fo_core.specs.declared.world.World.{World}
use Rattle.fo_least.proofs.Naming.{IsNaming}

-- each number below m is a value at some number below n
abbrev Covers : ℕ → ℕ → (ℕ → ℕ) → Type 0
Covers n m f = (y : ℕ) → y < m → (x : ℕ) × (x < n) × (f x ≡ y)

-- the values without v, those above it moved down
abbrev without : (ℕ → ℕ) → ℕ → ℕ → ℕ
without f v x = cond (ltb v (f x)) (f x - 1) (f x)

without-above : (f : ℕ → ℕ) (v x : ℕ) → v < f x → without f v x ≡ f x - 1
without-above f v x lt = grind (arith, nat_tests)

without-below : (f : ℕ → ℕ) (v x : ℕ) → f x ≤ v → without f v x ≡ f x
without-below f v x le = grind (arith, nat_tests)

pub covers-le : (n m : ℕ) (f : ℕ → ℕ) → Covers n m f → m ≤ n
covers-le zero m f h = by_case (cases_lt 0 m)
  where
    by_case : (0 < m) ⊎ (m ≤ 0) → m ≤ 0
    by_case (inl lt) = let c = h 0 lt in absurd (omega (arith, c.1))
    by_case (inr le) = le
covers-le (suc n) m f h = by_case (λ g. covers-le n m f g) (λ g. covers-le n (m - 1) (without f (f n)) g) (cases_lt (f n) m)
  where
    before : (y x : ℕ) → x < suc n → f x ≡ y → ¬ (f n ≡ y) → (x : ℕ) × (x < n) × (f x ≡ y)
    before y x lt e other = at (cases_eq x n)
      where
        at : (x ≡ n) ⊎ (x ≡ n → ⊥) → (x : ℕ) × (x < n) × (f x ≡ y)
        at (inl same) = absurd (other (sym (ap f same) ∙ e))
        at (inr differs) = (x, omega arith, e)

    kept : m ≤ f n → Covers n m f
    kept le y lt = let c = h y lt in before y c.0 c.1 c.2 (λ e. omega arith)

    moved : f n < m → Covers n (m - 1) (without f (f n))
    moved lt z below = at (cases_lt z (f n))
      where
        at : (z < f n) ⊎ (f n ≤ z) → (x : ℕ) × (x < n) × (without f (f n) x ≡ z)
        at (inl less) =
            let c = h z (omega arith) in
            let b = before z c.0 c.1 c.2 (λ e. omega arith) in
            let value = b.2 in
            (b.0, b.1, without-below f (f n) b.0 (omega arith) ∙ value)
        at (inr more) =
            let c = h (z + 1) (omega arith) in
            let b = before (z + 1) c.0 c.1 c.2 (λ e. omega arith) in
            let value = b.2 in
            (b.0, b.1, without-above f (f n) b.0 (omega arith) ∙ (let down : f b.0 - 1 ≡ z = omega arith in down))

    by_case : (Covers n m f → m ≤ n) → (Covers n (m - 1) (without f (f n)) → m - 1 ≤ n) → (f n < m) ⊎ (m ≤ f n) → m ≤ suc n
    by_case same less (inr le) = let r = same (kept le) in omega arith
    by_case same less (inl lt) = let r = less (moved lt) in omega arith

pub sizes-covered : (w : World) (sizes : List ℕ) (name : ℕ → ℕ → ℕ) (s : ℕ) → IsNaming w sizes name → s < length sizes → slice_index w.sizes s ≤ slice_index sizes s
sizes-covered w sizes name s naming known = covers-le (slice_index sizes s) (slice_index w.sizes s) (name s) (λ y lt. naming.covers s y known lt)
