-- Words and the keys of a set.
use Rattle.std.proofs.Common.{◌≡◌, ℕ, suc, zero, ◌+◌, ◌<◌, ◌≤◌, ◌++◌, ◌⊎◌, inl, inr, Bool, true, false, not, cond, List, [], ◌∷◌, length, map, refl, sym, ap, ◌∙◌, subst, arith, Option, Some, None, is_some, option_map, nat_lt, Bor, add-one}
use Rattle.std.specs.List.{position, position_or_len, list_any}
use Rattle.std.specs.Str.{bytes_eq}
use Rattle.std.proofs.lemmas.Bool.{ltb-true, ltb-false, lt-ltb}
use Rattle.std.proofs.lemmas.Cmp.{nat_list_eq_equiv}
use Rattle.std.proofs.lemmas.List.Sums.{prefix_len-le-length}
use Rattle.pyv_meaning.specs.Scope.{number}
use Rattle.pyv_sorts.specs.Lists.{added, behind}

abbrev pub wording : List (Bor (List ℕ)) → List (List ℕ)
wording ks = map (λ (k : Bor (List ℕ)). k.now) ks

flip : (v w : List ℕ) → bytes_eq v w ≡ bytes_eq w v
flip v w = nat_list_eq_equiv.symm v w

itself : (w : List ℕ) → bytes_eq w w ≡ true
itself w = nat_list_eq_equiv.refl w

either : (b : Bool) → (b ≡ true) ⊎ (b ≡ false)
either true = inl refl
either false = inr refl

abbrev is_word : List ℕ → Bor (List ℕ) → Bool
is_word w k = bytes_eq w k.now

abbrev first : ℕ → ℕ → Option ℕ
first n m = cond (nat_lt n m) (Some n) None

first_none : (n m : ℕ) → m ≤ n → first n m ≡ None
first_none n m le = elim (either (nat_lt n m)) [ inl t ↦ let lt = ltb-true n m t in absurd (omega (arith, lt, le)) | inr f ↦ rw f refl ]

first_some : (n m : ℕ) → n < m → first n m ≡ Some n
first_some n m lt = rw (lt-ltb n m lt) refl

next : (n m k : ℕ) → k ≡ suc n → first k (suc m) ≡ option_map suc (first n m)
next n m k e =
    elim (either (nat_lt n m)) [
      | inl t ↦ let lt = ltb-true n m t in rw (e, t) (first_some (suc n) (suc m) (omega (arith, lt)))
      | inr f ↦ let le = ltb-false n m f in rw (e, f) (first_none (suc n) (suc m) (omega (arith, le)))
    ]

-- the place of the first that passes, from the front
pub position-cons : {X : Type 0} (p : X → Bool) (x : X) (xs : List X) → position p (x ∷ xs) ≡ cond (p x) (Some 0) (option_map suc (position p xs))
position-cons {X = X} p x xs =
    elim (either (p x)) [
      | inl t ↦ rw t (first_some 0 (suc (length xs)) (omega arith))
      | inr f ↦ rw f (next (position_or_len p xs) (length xs) (1 + position_or_len p xs) (omega arith))
    ]

pub number_position : (ks : List (Bor (List ℕ))) (w : List ℕ) → position (is_word w) ks ≡ number (wording ks) w
number_position [] w = refl
number_position (k ∷ ks) w =
    elim (either (bytes_eq w k.now)) [
      | inl t ↦ position-cons (is_word w) k ks ∙ rw (flip k.now w, t) refl
      | inr f ↦ position-cons (is_word w) k ks ∙ rw (flip k.now w, f) (ap (option_map suc) (number_position ks w))
    ]

some_suc : (o : Option ℕ) → option_map suc o ≡ None → o ≡ None
some_suc None h = refl
some_suc (Some k) h = absurd (cc)

abbrev some : ℕ → Option ℕ
some k = Some k

no_some : (k : ℕ) → some k ≡ None → ⊥
no_some k e = absurd (cc)

number_found : (v : List ℕ) (ws : List (List ℕ)) (w : List ℕ) → bytes_eq v w ≡ true → number (v ∷ ws) w ≡ Some 0
number_found v ws w e = rw e refl

number_later : (v : List ℕ) (ws : List (List ℕ)) (w : List ℕ) → bytes_eq v w ≡ false → number (v ∷ ws) w ≡ option_map suc (number ws w)
number_later v ws w e = rw e refl

-- the number of a word behind others
pub number_last : (ws : List (List ℕ)) (w : List ℕ) → number ws w ≡ None → number (ws ++ w ∷ []) w ≡ Some (length ws)
number_last [] w h = rw (itself w) refl
number_last (v ∷ ws) w h =
    elim (either (bytes_eq v w)) [
      | inl t ↦ absurd (no_some 0 (sym (number_found v ws w t) ∙ h))
      | inr f ↦ number_later v (ws ++ w ∷ []) w f ∙ ap (option_map suc) (number_last ws w (some_suc (number ws w) (sym (number_later v ws w f) ∙ h)))
    ]

wording_more : (ks : List (Bor (List ℕ))) (k : Bor (List ℕ)) → wording (ks ++ k ∷ []) ≡ wording ks ++ k.now ∷ []
wording_more [] k = refl
wording_more (x ∷ ks) k = ap (λ t. x.now ∷ t) (wording_more ks k)

wording_length : (ks : List (Bor (List ℕ))) → length (wording ks) ≡ length ks
wording_length [] = refl
wording_length (x ∷ ks) = ap suc (wording_length ks)

still : (o : Option ℕ) → is_some (option_map suc o) ≡ is_some o
still None = refl
still (Some k) = refl

-- a word among them has a number
any_number : (ks : List (Bor (List ℕ))) (w : List ℕ) → list_any (is_word w) ks ≡ is_some (number (wording ks) w)
any_number [] w = refl
any_number (k ∷ ks) w =
    elim (either (bytes_eq w k.now)) [
      | inl t ↦ rw (flip k.now w, t) refl
      | inr f ↦ rw (flip k.now w, f) (any_number ks w ∙ sym (still (number (wording ks) w)))
    ]

more_keys : (o : Option ℕ) (ks : List (Bor (List ℕ))) (k : Bor (List ℕ)) → wording (cond (is_some o) ks (ks ++ k ∷ [])) ≡ behind o (wording ks) k.now
more_keys None ks k = wording_more ks k
more_keys (Some j) ks k = refl

-- the words of the keys with one more
pub keys_added : (ks ns : List (Bor (List ℕ))) (k : Bor (List ℕ)) → ns ≡ cond (list_any (is_word k.now) ks) ks (ks ++ k ∷ []) → wording ns ≡ added (wording ks) k.now
keys_added ks ns k e = ap wording e ∙ ap (λ b. wording (cond b ks (ks ++ k ∷ []))) (any_number ks k.now) ∙ more_keys (number (wording ks) k.now) ks k

first_is : (n m k : ℕ) → first n m ≡ some k → n ≡ k
first_is n m k e =
    elim (either (nat_lt n m)) [
      | inl t ↦ let g : some n ≡ some k = sym (rw t refl) ∙ e in cc
      | inr f ↦ absurd (no_some k (sym e ∙ rw f refl))
    ]

past : (n m : ℕ) → first n m ≡ None → m ≤ n
past n m e =
    elim (either (nat_lt n m)) [
      | inl t ↦ absurd (no_some n (sym (first_some n m (ltb-true n m t)) ∙ e))
      | inr f ↦ ltb-false n m f
    ]

numbered : (o : Option ℕ) (ks : List (Bor (List ℕ))) (w : List ℕ) → number (wording ks) w ≡ o → number (behind o (wording ks) w) w ≡ Some (position_or_len (is_word w) ks)
numbered (Some k) ks w h =
    let n : position_or_len (is_word w) ks ≡ k = first_is _ (length ks) k (number_position ks w ∙ h) in
    h ∙ ap some (sym n)
numbered None ks w h =
    let le = past (position_or_len (is_word w) ks) (length ks) (number_position ks w ∙ h) in
    let ge = prefix_len-le-length (λ x. not (is_word w x)) ks in
    let same : length (wording ks) ≡ position_or_len (is_word w) ks = omega (arith, le, ge, wording_length ks) in
    number_last (wording ks) w h ∙ ap some same

-- the number of the word that was added
pub number_added : (ks ns : List (Bor (List ℕ))) (k : Bor (List ℕ)) (n : ℕ) → ns ≡ cond (list_any (is_word k.now) ks) ks (ks ++ k ∷ []) → n ≡ position_or_len (is_word k.now) ks → number (wording ns) k.now ≡ Some n
number_added ks ns k n e i =
    ap (λ ws. number ws k.now) (keys_added ks ns k e) ∙ numbered (number (wording ks) k.now) ks k.now refl ∙ ap some (sym i)
