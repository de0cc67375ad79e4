-- Reading one thing after the other, as loops do.
use Rattle.std.proofs.Common.{◌≡◌, ℕ, suc, ◌+◌, ◌-◌, ◌<◌, ◌≤◌, Bool, true, false, cond, List, [], ◌∷◌, ◌++◌, length, get_or, drop, Ok, Err, refl, sym, ap, ◌∙◌, append_assoc, arith}
use Rattle.std.proofs.lemmas.List.{at_drop_more, length-drop, drop_all}
use Rattle.fo_text.specs.declared.halt.Halt.{Halt}
use Rattle.fo_text.specs.declared.halt.Halt.TheVariants.{Memory, Fault}
use Rattle.fo_text.specs.Reading.{Read, ◌>>=◌, Fails}
use Rattle.fo_text.proofs.Loops.{with_front, list_done}
use Rattle.up_report.specs.ClauseReading.{chain_by, variable_at, argument_ending, arguments_at}

regroup : {A : Type 0} (front : List A) (x : A) (read : Read (List A)) → with_front front (read >>= λ xs. Ok (x ∷ xs.0, xs.1)) ≡ with_front (front ++ x ∷ []) read
regroup front x (Ok xs) = ap (λ ys. Ok (ys, xs.1)) (sym (append_assoc front (x ∷ []) xs.0))
regroup front x (Err left) = refl

-- ---- items of which each tells whether it is the last

module _ {A : Type 0} (item : ℕ → List ℕ → Read (A × Bool)) (n k : ℕ) (front : List A) (bytes : List ℕ) (whole : Read (List A)) where
  -- what is still read, after what was read before, is the whole
  abbrev pub SoFar : Type 0
  SoFar = with_front front (chain_by item (n - k) k bytes) ≡ whole

  abbrev rest_of : Bool → A → List ℕ → Read (List A)
  rest_of last x after = cond last (Ok (x ∷ [], after)) (chain_by item (n - (k + 1)) (k + 1) after >>= λ xs. Ok (x ∷ xs.0, xs.1))

  chain_step : k < n → chain_by item (n - k) k bytes ≡ (item k bytes >>= λ x. rest_of x.0.1 x.0.0 x.1)
  unfolding chain_by
  chain_step h = let e : n - k ≡ suc (n - (k + 1)) = omega arith in rw e refl

  after_item : k < n → (x : A) (last : Bool) (after : List ℕ) → item k bytes ≡ Ok ((x, last), after) → chain_by item (n - k) k bytes ≡ rest_of last x after
  after_item h x last after e = chain_step h ∙ ap (λ (r : Read (A × Bool)). r >>= λ y. rest_of y.0.1 y.0.0 y.1) e

  pub chain_last : k < n → (x : A) (last : Bool) (after : List ℕ) → last ≡ true → item k bytes ≡ Ok ((x, last), after) → SoFar → whole ≡ Ok (front ++ x ∷ [], after)
  chain_last h x last after is e so_far =
      sym so_far ∙ ap (with_front front) (after_item h x last after e ∙ ap (λ (b : Bool). rest_of b x after) is)

  pub chain_more : k < n → (x : A) (last : Bool) (after : List ℕ) → last ≡ false → item k bytes ≡ Ok ((x, last), after) → SoFar → with_front (front ++ x ∷ []) (chain_by item (n - (k + 1)) (k + 1) after) ≡ whole
  chain_more h x last after is e so_far =
      sym (regroup front x (chain_by item (n - (k + 1)) (k + 1) after))
      ∙ sym (ap (with_front front) (after_item h x last after e ∙ ap (λ (b : Bool). rest_of b x after) is)) ∙ so_far

  pub chain_ends : k < n → (e : Halt) → Fails e (item k bytes) → SoFar → Fails e whole
  chain_ends h Memory f so_far = tt
  chain_ends h (Fault left) f so_far =
      sym so_far ∙ ap (with_front front) (chain_step h ∙ ap (λ (r : Read (A × Bool)). r >>= λ y. rest_of y.0.1 y.0.0 y.1) f)

  pub chain_spent : n ≤ k → SoFar → whole ≡ Err 0
  unfolding chain_by
  chain_spent h so_far = let e : n - k ≡ 0 = omega arith in sym so_far ∙ ap (λ (m : ℕ). with_front front (chain_by item m k bytes)) e

-- ---- arguments

module _ (sorts wanted : List ℕ) (i : ℕ) (front bytes : List ℕ) (whole : Read (List ℕ)) where
  abbrev pub ArgumentsSoFar : Type 0
  ArgumentsSoFar = with_front front (arguments_at sorts (drop i wanted) bytes) ≡ whole

  abbrev then_others : Read (ℕ × ℕ) → Read (List ℕ)
  then_others r = r >>= λ v. arguments_at sorts (drop (i + 1) wanted) v.1 >>= λ vs. Ok (v.0.0 ∷ vs.0, vs.1)

  argument_step : i < length wanted → arguments_at sorts (drop i wanted) bytes ≡ then_others (variable_at sorts (argument_ending (length wanted - i - 1)) (get_or wanted i 0) bytes)
  unfolding arguments_at
  argument_step h =
      let e : length (drop (i + 1) wanted) ≡ length wanted - i - 1 = omega (arith, length-drop (i + 1) wanted) in
      at_drop_more (λ l. arguments_at sorts l bytes) wanted i 0 h
      ∙ ap (λ (m : ℕ). then_others (variable_at sorts (argument_ending m) (get_or wanted i 0) bytes)) e

  pub argument_more : i < length wanted → (v e : ℕ) (after : List ℕ) → variable_at sorts (argument_ending (length wanted - i - 1)) (get_or wanted i 0) bytes ≡ Ok ((v, e), after) → ArgumentsSoFar → with_front (front ++ v ∷ []) (arguments_at sorts (drop (i + 1) wanted) after) ≡ whole
  argument_more h v e after is so_far =
      sym (regroup front v (arguments_at sorts (drop (i + 1) wanted) after)) ∙ sym (ap (with_front front) (argument_step h ∙ ap then_others is)) ∙ so_far

  pub argument_ends : i < length wanted → (e : Halt) → Fails e (variable_at sorts (argument_ending (length wanted - i - 1)) (get_or wanted i 0) bytes) → ArgumentsSoFar → Fails e whole
  argument_ends h Memory f so_far = tt
  argument_ends h (Fault left) f so_far = sym so_far ∙ ap (with_front front) (argument_step h ∙ ap then_others f)

  pub arguments_done : length wanted ≤ i → ArgumentsSoFar → whole ≡ Ok (front, bytes)
  unfolding arguments_at
  arguments_done h so_far = list_done front bytes (arguments_at sorts (drop i wanted) bytes) whole (ap (λ l. arguments_at sorts l bytes) (drop_all i wanted h)) so_far
