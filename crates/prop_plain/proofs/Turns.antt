-- The search ends.
use Rattle.std.proofs.Common.{◌≡◌, ℕ, ◌<◌, ◌+◌, ◌-◌, ◌*◌, Bool, true, false, zero, suc, List, [], ◌∷◌, ◌++◌, length, ◌∙◌, ap, sym, subst, arith}
use Rattle.std.proofs.lemmas.List.{length_push}
use Rattle.prop_plain.specs.Search.{turns, turns_above, turns_left}

turns_above-push : (n : ℕ) (path : List Bool) (b : Bool) → length path < n → turns_above n (path ++ b ∷ []) ≡ turns_above n path + turns_above (n - length path) (b ∷ [])
turns_above-push n [] b fits =
    let e : n - 0 ≡ n = omega arith in
    let h : turns_above (n - 0) (b ∷ []) ≡ turns_above n (b ∷ []) = ap (λ m. turns_above m (b ∷ [])) e in
    omega (arith, h)
turns_above-push zero (x ∷ path) b fits = absurd (omega arith)
turns_above-push (suc n) (true ∷ path) b fits =
    let e : suc n - suc (length path) ≡ n - length path = omega arith in
    let h : turns_above (suc n - suc (length path)) (b ∷ []) ≡ turns_above (n - length path) (b ∷ []) = ap (λ m. turns_above m (b ∷ [])) e in
    let ih = turns_above-push n path b (omega arith) in
    omega (arith, h, ih)
turns_above-push (suc n) (false ∷ path) b fits =
    let e : suc n - suc (length path) ≡ n - length path = omega arith in
    let h : turns_above (suc n - suc (length path)) (b ∷ []) ≡ turns_above (n - length path) (b ∷ []) = ap (λ m. turns_above m (b ∷ [])) e in
    let ih = turns_above-push n path b (omega arith) in
    omega (arith, h, ih)

turns_positive : (n : ℕ) → 0 < turns n
turns_positive zero = omega arith
turns_positive (suc n) = omega arith

turns_next : (n m : ℕ) → n ≡ m + 1 → turns n ≡ 2 * turns m + 3
turns_next n m e = let f : m + 1 ≡ suc m = omega arith in ap turns (e ∙ f)

one_true : (n m : ℕ) → n ≡ m + 1 → turns_above n (true ∷ []) ≡ 1
one_true n m e = let f : m + 1 ≡ suc m = omega arith in ap (λ k. turns_above k (true ∷ [])) (e ∙ f)

one_false : (n m : ℕ) → n ≡ m + 1 → turns_above n (false ∷ []) ≡ 2 + turns m + 0
one_false n m e = let f : m + 1 ≡ suc m = omega arith in ap (λ k. turns_above k (false ∷ [])) (e ∙ f)

pub fewer_refuted : (n : ℕ) (path : List Bool) → turns_left n path true < turns_left n path false
fewer_refuted n path = let h = turns_positive (n - length path) in omega (arith, h)

pub fewer_taken : (n : ℕ) (path : List Bool) (refuted : Bool) → refuted ≡ false → turns_left n path true < turns_left n path refuted
fewer_taken n path refuted e = let P : Bool → Type 0 = λ b. turns_left n path true < turns_left n path b in subst P (sym e) (fewer_refuted n path)

module _ (n : ℕ) (path : List Bool) (fits : length path < n) where
  below : ℕ
  below = n - length path - 1

  above_one : n - length path ≡ below + 1
  unfolding below
  above_one = omega arith

  push_below : (b : Bool) → turns (n - length (path ++ b ∷ [])) ≡ turns below
  unfolding below
  push_below b = let l = length_push path b in let e : n - length (path ++ b ∷ []) ≡ n - length path - 1 = omega (arith, l) in ap turns e

  pub fewer_pushed : turns_left n (path ++ false ∷ []) false < turns_left n path false
  fewer_pushed =
      let p = turns_above-push n path false fits in
      let q = one_false (n - length path) below above_one in
      let r = push_below false in
      let t = turns_next (n - length path) below above_one in
      omega (arith, p, q, r, t)

  pub fewer_popped : turns_left n path true < turns_left n (path ++ true ∷ []) true
  fewer_popped =
      let p = turns_above-push n path true fits in
      let q = one_true (n - length path) below above_one in
      omega (arith, p, q)

  pub fewer_second : turns_left n (path ++ true ∷ []) false < turns_left n (path ++ false ∷ []) true
  fewer_second =
      let p = turns_above-push n path true fits in
      let q = one_true (n - length path) below above_one in
      let p' = turns_above-push n path false fits in
      let q' = one_false (n - length path) below above_one in
      let r = push_below true in
      omega (arith, p, q, p', q', r)
