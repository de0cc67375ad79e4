-- Tuples of arguments by their numbers.
use Rattle.std.proofs.Common.{◌≡◌, ◌↔◌, ℕ, ◌+◌, ◌-◌, ◌<◌, ◌≤◌, List, [], ◌∷◌, map, refl, ap, ◌∙◌, arith}
use Rattle.std.specs.List.{All, AllZip}
use Rattle.std.specs.Prelude.{slice_index}
use Rattle.std.proofs.lemmas.List.Elements.{All-head, All-tail, All-nil, All-cons}
use Rattle.fo_core.specs.Tables.{place}
use Rattle.fo_core.specs.Weights.{power}
use Rattle.fo_core.proofs.TupleLemmas.{tuple-place, tuple-below, place-tuple}
use Rattle.fo_terms.specs.declared.terms.Ground.{Ground}
use Rattle.fo_terms.specs.Arranged.{offsets}
use Rattle.fo_terms.specs.Blocks.{arguments_at, raised}
use Rattle.fo_terms.specs.Universe.{IsOf, AreOf}
use Rattle.fo_core.specs.Tuples.{tuple_at}

-- where the terms of these sorts stand from their first places on
module _ (ts : List Ground) (firsts sizes : List ℕ) where
  abbrev pub InBlock : ℕ → Type 0
  InBlock s = (p : ℕ) → IsOf ts s p ↔ ((slice_index firsts s ≤ p) × (p < slice_index firsts s + slice_index sizes s))

  pub raised-are : (ss xs : List ℕ) → All InBlock ss → AllZip (λ x n. x < n) xs (map (slice_index sizes) ss) → AreOf ts (raised firsts ss xs) ss
  raised-are [] [] blocks h = tt
  raised-are [] (x ∷ xs) blocks h = absurd h
  raised-are (s ∷ ss) [] blocks h = absurd h
  raised-are (s ∷ ss) (x ∷ xs) blocks h = ((All-head InBlock s ss blocks (slice_index firsts s + x)).1 (omega arith, omega (arith, h.0)), raised-are ss xs (All-tail InBlock s ss blocks) h.1)

  pub offsets-below : (ss ps : List ℕ) → All InBlock ss → AreOf ts ps ss → AllZip (λ x n. x < n) (offsets firsts ss ps) (map (slice_index sizes) ss)
  offsets-below [] [] blocks h = tt
  offsets-below (s ∷ ss) [] blocks h = absurd h
  offsets-below [] (p ∷ ps) blocks h = absurd h
  offsets-below (s ∷ ss) (p ∷ ps) blocks h = let b = (All-head InBlock s ss blocks p).0 h.0 in (omega (arith, b.0, b.1), offsets-below ss ps (All-tail InBlock s ss blocks) h.1)

  pub raised-offsets : (ss ps : List ℕ) → All InBlock ss → AreOf ts ps ss → raised firsts ss (offsets firsts ss ps) ≡ ps
  raised-offsets [] [] blocks h = refl
  raised-offsets (s ∷ ss) [] blocks h = absurd h
  raised-offsets [] (p ∷ ps) blocks h = absurd h
  raised-offsets (s ∷ ss) (p ∷ ps) blocks h =
      let b = (All-head InBlock s ss blocks p).0 h.0 in
      let e : slice_index firsts s + (p - slice_index firsts s) ≡ p = omega (arith, b.0) in
      ap (λ q. q ∷ raised firsts ss (offsets firsts ss ps)) e ∙ ap (λ qs. p ∷ qs) (raised-offsets ss ps (All-tail InBlock s ss blocks) h.1)

  -- the arguments with the number of a tuple of arguments
  pub arguments-place : (ss ps : List ℕ) → All InBlock ss → AreOf ts ps ss → arguments_at firsts sizes ss (place (map (slice_index sizes) ss) (offsets firsts ss ps)) ≡ ps
  arguments-place ss ps blocks are =
      ap (raised firsts ss) (tuple-place (map (slice_index sizes) ss) (offsets firsts ss ps) (offsets-below ss ps blocks are)) ∙ raised-offsets ss ps blocks are

module _ (firsts sizes : List ℕ) where
  offsets-raised : (ss xs : List ℕ) (ns : List ℕ) → AllZip (λ x n. x < n) xs (map (slice_index sizes) ss) → offsets firsts ss (raised firsts ss xs) ≡ xs
  offsets-raised [] [] ns h = refl
  offsets-raised [] (x ∷ xs) ns h = absurd h
  offsets-raised (s ∷ ss) [] ns h = absurd h
  offsets-raised (s ∷ ss) (x ∷ xs) ns h =
      let e : slice_index firsts s + x - slice_index firsts s ≡ x = omega arith in
      ap (λ y. y ∷ offsets firsts ss (raised firsts ss xs)) e ∙ ap (λ ys. x ∷ ys) (offsets-raised ss xs ns h.1)

  -- arguments tell their number
  pub place-arguments : (ss : List ℕ) (j : ℕ) → j < power sizes ss → place (map (slice_index sizes) ss) (offsets firsts ss (arguments_at firsts sizes ss j)) ≡ j
  place-arguments ss j lt =
      let ns = map (slice_index sizes) ss in
      ap (place ns) (offsets-raised ss (tuple_at ns j) ns (tuple-below ns j lt)) ∙ place-tuple ns j lt

  -- arguments stand before all that the blocks of their sorts stand before
  pub arguments-before : (ss xs : List ℕ) (limit : ℕ) → All (λ s. slice_index firsts s + slice_index sizes s ≤ limit) ss → AllZip (λ x n. x < n) xs (map (slice_index sizes) ss) → All (λ q. q < limit) (raised firsts ss xs)
  arguments-before [] xs limit le h = All-nil (λ q. q < limit)
  arguments-before (s ∷ ss) [] limit le h = absurd h
  arguments-before (s ∷ ss) (x ∷ xs) limit le h =
      All-cons (λ q. q < limit) (slice_index firsts s + x) (raised firsts ss xs) (omega (arith, h.0, All-head (λ s. slice_index firsts s + slice_index sizes s ≤ limit) s ss le))
      (arguments-before ss xs limit (All-tail (λ s. slice_index firsts s + slice_index sizes s ≤ limit) s ss le) h.1)
