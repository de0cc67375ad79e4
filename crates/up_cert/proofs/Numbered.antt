-- What holds of all spots of numbers below one, by number.
use Rattle.std.proofs.Common.{◌≡◌, ℕ, zero, suc, ◌<◌, inl, inr, List, [], ◌∷◌, length, subst, arith}
use Rattle.std.specs.List.{All}
use Rattle.std.proofs.lemmas.Bool.{cases_lt}
use Rattle.std.proofs.lemmas.List.Elements.{All-nil, All-cons, All-head, All-append}
use Rattle.fo_core.proofs.ListFacts.{all_left, all_right}
use Rattle.up_claims.specs.declared.verdict.Kept.{Kept}
use Rattle.up_cert.specs.declared.spot.Spot.{Spot}
use Rattle.up_cert.specs.declared.spot.What.TheVariants as what
use Rattle.up_cert.specs.VerdictSpots.{spot, each_below, spots_below, clause_spots, frame_spots}

module _ (P : Spot → Type 0) where
  pub one-to : (s : Spot) → All P (s ∷ []) → P s
  one-to s h = All-head P s [] h

  pub one-from : (s : Spot) → P s → All P (s ∷ [])
  one-from s p = All-cons P s [] p (All-nil P)

  module _ (spots : ℕ → List Spot) where
    pub each-from : (n : ℕ) → All P (each_below spots n) → (k : ℕ) → k < n → All P (spots k)
    each-from zero h k lt = absurd (omega (arith, lt))
    each-from (suc n) h k lt = elim (cases_lt k n) [
      | inl less ↦ each-from n (all_left P (each_below spots n) (spots n) h) k less
      | inr more ↦
          let is : n ≡ k = omega (arith, lt, more) in
          subst (λ (m : ℕ). All P (spots m)) is (all_right P (each_below spots n) (spots n) h)
    ]

    pub each-to : (n : ℕ) → ((k : ℕ) → k < n → All P (spots k)) → All P (each_below spots n)
    each-to zero h = All-nil P
    each-to (suc n) h = All-append P (each_below spots n) (spots n) (each-to n (λ k lt. h k (omega (arith, lt)))) (h n (omega arith))

  -- the spots of clauses, by the clauses' numbers
  pub frame-all : (clauses : List Kept) → ((k : ℕ) → k < length clauses → P (spot what.Init k)) → ((k : ℕ) → k < length clauses → P (spot what.Step k)) → P (spot what.Safety 0) → All P (frame_spots clauses)
  frame-all clauses starts keeps safe =
      let n = length clauses in
      All-append P (clause_spots clauses) (spot what.Safety 0 ∷ [])
      (All-append P (spots_below what.Init n) (spots_below what.Step n)
      (each-to (λ j. spot what.Init j ∷ []) n (λ k lt. one-from (spot what.Init k) (starts k lt)))
      (each-to (λ j. spot what.Step j ∷ []) n (λ k lt. one-from (spot what.Step k) (keeps k lt))))
      (one-from (spot what.Safety 0) safe)
