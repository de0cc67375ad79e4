-- Numbers that are cut at the greatest of 64 bits.
use Rattle.std.proofs.Common.{◌≡◌, ℕ, zero, suc, min, ◌+◌, ◌*◌, ◌<◌, ◌≤◌, ◌⊎◌, inl, inr, List, [], ◌∷◌, length, get_or, map, refl, ap, ◌∙◌, arith}
use Rattle.std.proofs.lemmas.Bool.{cases_lt}
use Rattle.std.proofs.Math.Nat.{mul_comm, mul-le-mul_left}
use Rattle.fo_core.specs.QueryWeight.{cut}

grows : (a c : ℕ) → a ≤ a * suc c
grows a c = omega (arith, mul-le-mul_left a (let h : 1 ≤ suc c = omega arith in h))

-- a product is cut alike whether a factor was cut before or not
min-mul : (m a c : ℕ) → min (min a m * c) m ≡ min (a * c) m
min-mul m a zero = omega arith
min-mul m a (suc c) = by_cases (cases_lt m a)
  where
    by_cases : (m < a) ⊎ (a ≤ m) → min (min a m * suc c) m ≡ min (a * suc c) m
    by_cases (inl above) =
        let e : min a m ≡ m = omega arith in
        rw e (omega (arith, grows m c, grows a c))
    by_cases (inr le) =
        let e : min a m ≡ a = omega arith in
        rw e refl

pub cut-mul_left : (a c : ℕ) → cut (cut a * c) ≡ cut (a * c)
cut-mul_left a c = min-mul 18446744073709551615 a c

pub cut-mul_right : (a c : ℕ) → cut (c * cut a) ≡ cut (c * a)
cut-mul_right a c = ap cut (mul_comm c (cut a)) ∙ cut-mul_left a c ∙ ap cut (mul_comm a c)

pub cut-mul : (a c : ℕ) → cut (cut a * cut c) ≡ cut (a * c)
cut-mul a c = cut-mul_left a (cut c) ∙ cut-mul_right c a

pub cut-add_left : (a c : ℕ) → cut (cut a + c) ≡ cut (a + c)
cut-add_left a c = omega arith

pub cut-add_right : (a c : ℕ) → cut (c + cut a) ≡ cut (c + a)
cut-add_right a c = omega arith

pub cut-add : (a c : ℕ) → cut (cut a + cut c) ≡ cut (a + c)
cut-add a c = omega arith

pub cut-small : (a : ℕ) → a < 18446744073709551616 → cut a ≡ a
cut-small a lt = omega arith

-- a number that is small once cut was small
pub small-cut : (a m : ℕ) → cut a ≤ m → m < 18446744073709551615 → cut a ≡ a
small-cut a m le lt = omega arith

pub map_cut-small : (xs : List ℕ) → ((k : ℕ) → k < length xs → cut (get_or xs k 0) ≡ get_or xs k 0) → map cut xs ≡ xs
map_cut-small [] h = refl
map_cut-small (x ∷ xs) h = ap (λ y. y ∷ map cut xs) (h 0 (omega arith)) ∙ ap (λ ys. x ∷ ys) (map_cut-small xs (λ k lt. h (suc k) (omega arith)))
