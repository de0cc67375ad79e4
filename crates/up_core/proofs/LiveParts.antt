-- A list whose elements that pass a test are treated one after the other.
use Rattle.std.proofs.Common.{◌≡◌, ℕ, suc, ◌+◌, ◌<◌, ◌≤◌, Bool, false, List, [], ◌∷◌, length, get_or, set, Some, slice_get, refl, sym, ap, subst, ◌∙◌, ◌⊎◌, inl, inr, arith}
use Rattle.std.proofs.lemmas.Bool.{cases_lt}
use Rattle.std.proofs.lemmas.List.{get_or_past}
use Rattle.std.proofs.lemmas.Option.{slice_get-get_or}
use Rattle.up_machine.proofs.Lists.{some_injective}
use Rattle.up_core.specs.Mirror.{Pairs}
use Rattle.up_core.specs.Places.{places_of}
use Rattle.up_core.proofs.Pairing.{pairs-length}
use Rattle.up_core.proofs.Parts.{IsPart, part-init, part-at, part-step, part-end}
use Rattle.up_core.proofs.Placed.{next_of, next-is, none-between, place-order, placed-lt}

-- pairs whose relation changes where the first elements stand
pub pairs-there : {X Y : Type 0} (xs : List X) (ys : List Y) (R S : ℕ → X → Y → Type 0) → ((k : ℕ) (x : X) (y : Y) → slice_get xs k ≡ Some x → R k x y → S k x y) → Pairs xs ys R → Pairs xs ys S
pairs-there [] [] R S to h = h
pairs-there [] (y ∷ ys) R S to h = absurd h
pairs-there (x ∷ xs) [] R S to h = absurd h
pairs-there (x ∷ xs) (y ∷ ys) R S to h = (to 0 x y refl h.0, pairs-there xs ys (λ k. R (suc k)) (λ k. S (suc k)) (λ k. to (suc k)) h.1)

-- elements that don't pass count as treated
module _ {X : Type 0} (test : X → Bool) (xs : List X) (L : X → X → Type 0) (same : (k : ℕ) (x : X) → slice_get xs k ≡ Some x → test x ≡ false → L x x) where
  abbrev ks : List ℕ
  ks = places_of test xs

  -- those before the listed place of this number are treated
  abbrev Treated : ℕ → List X → Type 0
  Treated i ys = Pairs xs ys (IsPart L (next_of test xs i))

  more : (ys : List X) (i j : ℕ) → i ≤ j → ((k : ℕ) (x : X) → i ≤ k → k < j → slice_get xs k ≡ Some x → L x x) → Pairs xs ys (IsPart L i) → Pairs xs ys (IsPart L j)
  more ys i j le skip h =
      pairs-there xs ys (IsPart L i) (IsPart L j)
      (λ k x y there p. (λ lt. by k x y there p lt (cases_lt k i), λ far. p.1 (omega (arith, le, far)))) h
    where
      by : (k : ℕ) (x y : X) → slice_get xs k ≡ Some x → IsPart L i k x y → k < j → (k < i) ⊎ (i ≤ k) → L x y
      by k x y there p lt (inl less) = p.0 less
      by k x y there p lt (inr far) = subst (λ z. L x z) (sym (p.1 far)) (skip k x far lt there)

  pub live-init : Treated 0 xs
  live-init =
      more xs 0 (next_of test xs 0) (omega arith)
      (λ k x low lt there. same k x there (none-between test xs 0 k x (λ p j less e. absurd (omega (arith, less))) lt there)) (part-init L xs)

  pub live-at : (ys : List X) (i k : ℕ) (d : X) → Treated i ys → slice_get ks i ≡ Some k → (k < length ys) × (slice_get xs k ≡ Some (get_or ys k d))
  live-at ys i k d h e =
      let here = subst (λ n. Pairs xs ys (IsPart L n)) (next-is test xs i k e) h in
      let lt : k < length ys = subst (λ n. k < n) (pairs-length xs ys (IsPart L k) here) (placed-lt test xs i k e) in
      (lt, part-at L xs ys k d here lt)

  pub live-step : (ys : List X) (i k : ℕ) (d z : X) → Treated i ys → slice_get ks i ≡ Some k → L (get_or ys k d) z → Treated (i + 1) (set ys k z)
  live-step ys i k d z h e new =
      let here = subst (λ n. Pairs xs ys (IsPart L n)) (next-is test xs i k e) h in
      more (set ys k z) (k + 1) (next_of test xs (i + 1)) (after (cases_lt (i + 1) (length ks)))
      (λ j x far lt there. same j x there (none-between test xs (i + 1) j x (λ p n less e_p. before p n j less e_p far (cases_lt p i)) lt there))
      (part-step L xs ys k d z here new)
    where
      after : (i + 1 < length ks) ⊎ (length ks ≤ i + 1) → k + 1 ≤ next_of test xs (i + 1)
      after (inl lt) = let o = place-order test 0 xs i (i + 1) k (next_of test xs (i + 1)) (omega arith) e (slice_get-get_or ks (i + 1) (length xs) lt) in omega (arith, o)
      after (inr le) = let past = get_or_past ks (i + 1) (length xs) le in let lt = placed-lt test xs i k e in omega (arith, past, lt)

      before : (p n j : ℕ) → p < i + 1 → slice_get ks p ≡ Some n → k + 1 ≤ j → (p < i) ⊎ (i ≤ p) → n < j
      before p n j less e_p far (inl lt) = let o = place-order test 0 xs p i n k lt e_p e in omega (arith, o, far)
      before p n j less e_p far (inr le) =
          let at : p ≡ i = omega (arith, less, le) in
          let is = some_injective n k (sym e_p ∙ (ap (slice_get ks) at ∙ e)) in
          omega (arith, is, far)

  pub live-end : (ys : List X) (i : ℕ) → length ks ≤ i → Treated i ys → Pairs xs ys (λ _ x y. L x y)
  live-end ys i le h =
      let past = get_or_past ks i (length xs) le in
      let long = pairs-length xs ys (IsPart L (next_of test xs i)) h in
      part-end L xs ys (next_of test xs i) (omega (arith, past, long)) h
