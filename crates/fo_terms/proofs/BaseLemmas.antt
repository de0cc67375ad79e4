-- First places, and the arguments with a number.
use Rattle.std.proofs.Common.{◌≡◌, ◌≢◌, ℕ, zero, suc, ◌+◌, ◌*◌, ◌/◌, ◌%◌, ◌<◌, ◌≤◌, ◌^◌, ◌⊎◌, inl, inr, List, [], ◌∷◌, ◌++◌, length, get_or, set, take, drop, sym, ap, subst, ◌∙◌, arith}
use Rattle.std.specs.List.{AllPairs}
use Rattle.std.specs.Prelude.{slice_index}
use Rattle.std.proofs.Math.Nat.{mul-div_cancel_left, mod-lt, div-lt_iff_lt-mul}
use Rattle.std.proofs.lemmas.Bool.{cases_lt}
use Rattle.std.proofs.lemmas.List.{append_assoc, drop_more, get_or-set_other, get_or-set_same}
use Rattle.fo_core.specs.Weights.{added, power}
use Rattle.fo_terms.specs.Blocks.{arguments_at}

module _ (ranked counts firsts : List ℕ) (once : AllPairs (λ s t. s ≢ t) ranked) where
  -- one more sort gets its first place
  pub firsts-more : (i next : ℕ) → i < length ranked → get_or ranked i 0 < length firsts → next ≡ added (slice_index counts) (take i ranked) →
      ((j : ℕ) → j < i → slice_index firsts (get_or ranked j 0) ≡ added (slice_index counts) (take j ranked)) →
      (j : ℕ) → j < i + 1 → slice_index (set firsts (get_or ranked i 0) next) (get_or ranked j 0) ≡ added (slice_index counts) (take j ranked)
  firsts-more i next lt within is placed j less = by_place (cases_lt j i)
    where
      by_place : (j < i) ⊎ (i ≤ j) → slice_index (set firsts (get_or ranked i 0) next) (get_or ranked j 0) ≡ added (slice_index counts) (take j ranked)
      by_place (inl below) = get_or-set_other firsts (get_or ranked i 0) (get_or ranked j 0) next 0 (once j i 0 below lt) ∙ placed j below
      by_place (inr le) =
          let e : i ≡ j = omega arith in
          subst (λ j. slice_index (set firsts (get_or ranked i 0) next) (get_or ranked j 0) ≡ added (slice_index counts) (take j ranked)) e
          (get_or-set_same firsts (get_or ranked i 0) next 0 within ∙ is)

-- a product is not nothing, nor are its factors
pub factor-positive : (n T k : ℕ) → k < n * T → 0 < T
factor-positive n zero k lt = absurd (omega arith)
factor-positive n (suc T) k lt = omega arith

module _ (firsts sizes sorts : List ℕ) (i : ℕ) (lt : i < length sorts) where
  abbrev here : ℕ
  here = slice_index sizes (get_or sorts i 0)

  abbrev rest : ℕ
  rest = power sizes (drop (i + 1) sorts)

  pub power-here : power sizes (drop i sorts) ≡ here * rest
  power-here = ap (power sizes) (drop_more sorts i 0 lt)

  -- what is left of the tuples, of the number and of the arguments after one more argument
  module _ (count number : ℕ) (some : 1 ≤ here) (is : count ≡ power sizes (drop i sorts)) (below : number < count) where
    pub tuples-rest : count / here ≡ rest
    tuples-rest = ap (λ n. n / here) (is ∙ power-here) ∙ mul-div_cancel_left rest some

    within : number < here * rest
    within = omega (arith, power-here)

    rest-positive : 0 < rest
    rest-positive = factor-positive here rest number within

    pub offset-below : number / (count / here) < here
    offset-below = subst (λ n. number / n < here) (sym tuples-rest) ((div-lt_iff_lt-mul rest-positive).1 within)

    pub number-below : number % (count / here) < count / here
    number-below = subst (λ n. number % n < n) (sym tuples-rest) (mod-lt number rest-positive)

    pub arguments-more : (args all : List ℕ) → args ++ arguments_at firsts sizes (drop i sorts) number ≡ all →
        (args ++ (slice_index firsts (get_or sorts i 0) + number / (count / here)) ∷ []) ++ arguments_at firsts sizes (drop (i + 1) sorts) (number % (count / here)) ≡ all
    arguments-more args all so_far =
        append_assoc args ((slice_index firsts (get_or sorts i 0) + number / (count / here)) ∷ []) (arguments_at firsts sizes (drop (i + 1) sorts) (number % (count / here)))
        ∙ ap (λ n. args ++ (slice_index firsts (get_or sorts i 0) + number / n) ∷ arguments_at firsts sizes (drop (i + 1) sorts) (number % n)) tuples-rest
        ∙ ap (λ (ss : List ℕ). args ++ arguments_at firsts sizes ss number) (sym (drop_more sorts i 0 lt))
        ∙ so_far

pub next-below : (first size offset : ℕ) → first + size < 2 ^ 32 → offset < size → first + offset < 2 ^ 32
next-below first size offset few lt = omega arith
