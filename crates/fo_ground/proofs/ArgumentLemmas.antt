-- The arguments with a number, from the left.
use Rattle.std.proofs.Common.{◌≡◌, ℕ, zero, suc, ◌+◌, ◌*◌, ◌/◌, ◌%◌, ◌<◌, List, [], ◌∷◌, ◌++◌, length, get_or, drop, drop-cons, map, ap, subst, ◌∙◌, arith, add-one, append_assoc}
use Rattle.std.specs.Prelude.{slice_index, slice_index_or}
use Rattle.fo_ground.specs.Reading.{picked}
use Rattle.std.proofs.Math.Nat.{mod-lt, div-lt_iff_lt-mul, mul-div_cancel_left}
use Rattle.fo_core.specs.declared.signature.Sig.{Sig}
use Rattle.fo_core.specs.Weights.{power}
use Rattle.fo_terms.specs.declared.terms.Universe.{Universe}
use Rattle.fo_core.specs.TermCounts.{term_counts}
use Rattle.fo_ground.specs.Numbers.{count_of, first_at}
use Rattle.fo_ground.proofs.ClassTables.{positive_of}
use Rattle.fo_terms.specs.Blocks.{raised}
use Rattle.fo_core.specs.Tuples.{tuple_at}

-- a number below a product: the product's parts are not 0, and its quotient and rest are below them
module _ (n T number : ℕ) (below : number < n * T) where
  pub part-positive : 0 < T
  part-positive = positive_of n T number below

  pub count-positive : 0 < n
  count-positive = by_size n below
    where
      by_size : (m : ℕ) → number < m * T → 0 < m
      by_size zero lt = absurd (omega arith)
      by_size (suc m) lt = omega arith

  pub quotient-lt : number / T < n
  quotient-lt = (div-lt_iff_lt-mul part-positive).1 below

  pub rest-lt : number % T < T
  rest-lt = mod-lt number part-positive

  pub part-is : (n * T) / n ≡ T
  part-is = mul-div_cancel_left T count-positive

-- one more factor of a product of numbers
pub power-step-one : (U ss : List ℕ) (i : ℕ) → i < length ss → power U (drop i ss) ≡ slice_index U (get_or ss i 0) * power U (drop (i + 1) ss)
power-step-one U ss i lt = let split : drop i ss ≡ get_or ss i 0 ∷ drop (i + 1) ss = rw add-one (drop-cons ss i 0 lt) in ap (power U) split

module _ (sig : Sig) (copies : ℕ) (u : Universe) (ss : List ℕ) (i : ℕ) (lt : i < length ss) where
  split : drop i ss ≡ get_or ss i 0 ∷ drop (i + 1) ss
  split = rw add-one (drop-cons ss i 0 lt)

  pub power-split : (U : List ℕ) → power U (drop i ss) ≡ slice_index U (get_or ss i 0) * power U (drop (i + 1) ss)
  power-split U = ap (power U) split

  pub next-argument : (args whole : List ℕ) (number : ℕ) → args ++ raised u.firsts (drop i ss) (tuple_at (map (count_of sig copies u) (drop i ss)) number) ≡ whole →
      (args ++ (first_at sig copies u (get_or ss i 0) + number / power (term_counts sig copies) (drop (i + 1) ss)) ∷ []) ++ raised u.firsts (drop (i + 1) ss) (tuple_at (map (count_of sig copies u) (drop (i + 1) ss)) (number % power (term_counts sig copies) (drop (i + 1) ss)))
      ≡ whole
  next-argument args whole number e =
      let T = power (term_counts sig copies) (drop (i + 1) ss) in
      append_assoc args ((first_at sig copies u (get_or ss i 0) + number / T) ∷ []) (raised u.firsts (drop (i + 1) ss) (tuple_at (map (count_of sig copies u) (drop (i + 1) ss)) (number % T)))
      ∙ subst (λ xs. args ++ raised u.firsts xs (tuple_at (map (count_of sig copies u) xs) number) ≡ whole) split e

-- the same of first terms of classes
module _ (heads : List (List ℕ)) (sizes ss : List ℕ) (i : ℕ) (lt : i < length ss) where
  pub next-pick : (args whole : List ℕ) (number : ℕ) → args ++ picked heads (drop i ss) (tuple_at (map (slice_index sizes) (drop i ss)) number) ≡ whole →
      (args ++ slice_index (slice_index_or heads (get_or ss i 0) []) (number / power sizes (drop (i + 1) ss)) ∷ []) ++ picked heads (drop (i + 1) ss) (tuple_at (map (slice_index sizes) (drop (i + 1) ss)) (number % power sizes (drop (i + 1) ss))) ≡ whole
  next-pick args whole number e =
      let T = power sizes (drop (i + 1) ss) in
      let split : drop i ss ≡ get_or ss i 0 ∷ drop (i + 1) ss = rw add-one (drop-cons ss i 0 lt) in
      append_assoc args (slice_index (slice_index_or heads (get_or ss i 0) []) (number / T) ∷ []) (picked heads (drop (i + 1) ss) (tuple_at (map (slice_index sizes) (drop (i + 1) ss)) (number % T)))
      ∙ subst (λ xs. args ++ picked heads xs (tuple_at (map (slice_index sizes) xs) number) ≡ whole) split e
