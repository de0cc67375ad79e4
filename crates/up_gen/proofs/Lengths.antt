-- What holds of the model of each n, and how long the texts are.
use Rattle.std.proofs.Common.{◌≡◌, ◌≤◌, ◌<◌, ◌+◌, ◌⊎◌, ℕ, nat_le, true, length, inl, inr, subst, refl, arith, leb-true}
use Rattle.std.specs.Fmt.{digits}
use Rattle.std.proofs.lemmas.Bool.{cases_lt}
use Rattle.up_gen.specs.Models.{model_text_of}

-- what holds of 1 to 8 holds of each n in that range
pub for_each : (P : ℕ → Type 0) → P 1 → P 2 → P 3 → P 4 → P 5 → P 6 → P 7 → P 8 → (n : ℕ) → 1 ≤ n → n ≤ 8 → P n
for_each P p1 p2 p3 p4 p5 p6 p7 p8 n low high =
    from 1 p1 low (λ more. from 2 p2 more (λ more. from 3 p3 more (λ more. from 4 p4 more (λ more. from 5 p5 more (λ more. from 6 p6 more (λ more. from 7 p7 more (λ more. from 8 p8 more (λ past. absurd (omega (arith, past, high))))))))))
  where
    from : (k : ℕ) → P k → k ≤ n → (k + 1 ≤ n → P n) → P n
    from k p least next = of (cases_lt k n)
      where
        of : (k < n) ⊎ (n ≤ k) → P n
        of (inl more) = next (omega (arith, more))
        of (inr same) = let is : k ≡ n = omega (arith, same, least) in subst P is p

-- no text is long
pub short : (n : ℕ) → 1 ≤ n → n ≤ 8 → length (model_text_of n) ≤ 2000
unfolding digits
short = for_each (λ n. length (model_text_of n) ≤ 2000) (is_short 1 refl) (is_short 2 refl) (is_short 3 refl) (is_short 4 refl) (is_short 5 refl) (is_short 6 refl) (is_short 7 refl) (is_short 8 refl)
  where
    is_short : (n : ℕ) → nat_le (length (model_text_of n)) 2000 ≡ true → length (model_text_of n) ≤ 2000
    is_short n is = leb-true (length (model_text_of n)) 2000 is
