-- Names by the numbers of their words.
use Rattle.std.proofs.Common.{◌≡◌, ℕ, suc, zero, ◌+◌, ◌<◌, ◌≤◌, ◌⊎◌, ◌++◌, inl, inr, Bool, true, false, nat_eq, List, [], ◌∷◌, length, get_or, map, drop, refl, sym, ap, ◌∙◌, subst, arith, Option, Some, None, is_some, option_map, IsPermutation, cond}
use Rattle.std.proofs.lemmas.Bool.{eqb-true, eq-eqb}
use Rattle.std.proofs.lemmas.List.Sorted.{list_any-IsPermutation}
use Rattle.std.specs.List.{list_any}
use Rattle.std.specs.Str.{bytes_eq}
use Rattle.pyv_meaning.specs.Closing.{firsts, names_word}
use Rattle.pyv_meaning.specs.Declaring.{words}
use Rattle.pyv_meaning.specs.Gets.{Among, here, there}
use Rattle.pyv_meaning.specs.Scope.{number}
use Rattle.pyv_meaning.specs.Tree.{Name}
use Rattle.pyv_meaning.proofs.Lookups.{NoRepeat, no_repeat, has_word, word_has, same_bytes, bytes_same, other_bytes}
use Rattle.pyv_sorts.specs.Closures.{no_name, joined, part_names, put, numbers_of, AreNumbered, has, Picks}
use Rattle.pyv_sorts.specs.Placing.{names_in}
use Rattle.pyv_sorts.specs.declared.part.Part.{Part}
use Rattle.pyv_sorts.proofs.Naming.{front, at_index}
use Rattle.pyv_sorts.proofs.Picking.{firsts_both}
use Rattle.pyv_sorts.proofs.Uniting.{either}

still : (o : Option ℕ) → is_some (option_map suc o) ≡ is_some o
still None = refl
still (Some k) = refl

-- a word among the names has a number
pub word_number : (ns : List Name) (w : List ℕ) → names_word ns w ≡ is_some (number (words ns) w)
word_number [] w = refl
word_number (n ∷ ns) w =
    elim (either (bytes_eq n.word w)) [
      | inl t ↦ rw t refl
      | inr f ↦ rw f (word_number ns w ∙ sym (still (number (words ns) w)))
    ]

new_name : (known : List Name) (n : Name) → names_word known n.word ≡ false → firsts known (n ∷ []) ≡ known ++ n ∷ []
new_name known n e = rw e refl

old_name : (known : List Name) (n : Name) → names_word known n.word ≡ true → firsts known (n ∷ []) ≡ known
old_name known n e = rw e refl

pub first_new : (known : List Name) (n : Name) (ws : List (List ℕ)) → words known ≡ ws → number ws n.word ≡ None → firsts known (n ∷ []) ≡ known ++ n ∷ []
first_new known n ws e h = new_name known n (word_number known n.word ∙ ap (λ vs. is_some (number vs n.word)) e ∙ ap is_some h)

pub first_old : (known : List Name) (n : Name) (ws : List (List ℕ)) (k : ℕ) → words known ≡ ws → number ws n.word ≡ Some k → firsts known (n ∷ []) ≡ known
first_old known n ws k e h = old_name known n (word_number known n.word ∙ ap (λ vs. is_some (number vs n.word)) e ∙ ap is_some h)

-- the names of one more part
pub firsts_more : (known next : List Name) (ps : List Part) (i : ℕ) (p : Part) (start : List Name) → i < length ps → p ≡ get_or ps i p → next ≡ firsts known (names_in p.names.items)
    → firsts known (joined (part_names (drop i ps))) ≡ firsts start (joined (part_names ps)) → firsts next (joined (part_names (drop (i + 1) ps))) ≡ firsts start (joined (part_names ps))
firsts_more known next ps i p start lt e is h =
    ap (λ k. firsts k (joined (part_names (drop (i + 1) ps)))) is
    ∙ sym (firsts_both known (names_in p.names.items) (joined (part_names (drop (i + 1) ps))))
    ∙ ap (λ qs. firsts known (joined (part_names qs))) (sym (front ps i p p lt (sym e))) ∙ h

-- ---- numbers of names

some_suc : (o : Option ℕ) (k : ℕ) → option_map suc o ≡ Some k → (j : ℕ) × (o ≡ Some j) × (k ≡ suc j)
some_suc None k h = absurd (cc)
some_suc (Some j) k h = (j, refl, cc)

abbrev some : ℕ → Option ℕ
some k = Some k

zero_is : (k : ℕ) → some 0 ≡ Some k → k ≡ 0
zero_is k e = cc

found_first : (v : List ℕ) (ws : List (List ℕ)) (w : List ℕ) → bytes_eq v w ≡ true → number (v ∷ ws) w ≡ Some 0
found_first v ws w e = rw e refl

found_later : (v : List ℕ) (ws : List (List ℕ)) (w : List ℕ) → bytes_eq v w ≡ false → number (v ∷ ws) w ≡ option_map suc (number ws w)
found_later v ws w e = rw e refl

none_found : (w : List ℕ) (k : ℕ) → number [] w ≡ Some k → ⊥
none_found w k h = absurd (cc)

pub number_at : (ws : List (List ℕ)) (w : List ℕ) (k : ℕ) → number ws w ≡ Some k → (k < length ws) × (get_or ws k [] ≡ w)
number_at [] w k h = absurd (none_found w k h)
number_at (v ∷ ws) w k h =
    elim (either (bytes_eq v w)) [
      | inl t ↦
          let z = zero_is k (sym (found_first v ws w t) ∙ h) in
          (omega (arith, z), ap (λ n. get_or (v ∷ ws) n []) z ∙ same_bytes v w t)
      | inr f ↦
          let r = some_suc (number ws w) k (sym (found_later v ws w f) ∙ h) in
          let s = number_at ws w r.0 r.1 in
          (omega (arith, s.0, r.2), ap (λ n. get_or (v ∷ ws) n []) r.2 ∙ s.1)
    ]

has_put : (o : Option ℕ) (ks : List ℕ) (k : ℕ) → has (put o ks) k ≡ true → (o ≡ Some k) ⊎ (has ks k ≡ true)
has_put None ks k h = inr h
has_put (Some j) ks k h = elim (either (nat_eq k j)) [ inl t ↦ inl (ap some (sym (eqb-true k j t))) | inr f ↦ inr (sym (rw f refl) ∙ h) ]

put_has : (o : Option ℕ) (ks : List ℕ) (k : ℕ) → (o ≡ Some k) ⊎ (has ks k ≡ true) → has (put o ks) k ≡ true
put_has None ks k h = elim h [ inl e ↦ absurd (no_some k e) | inr m ↦ m ]
  where
    no_some : (k : ℕ) → None ≡ some k → ⊥
    no_some k e = absurd (cc)
put_has (Some j) ks k h = elim (either (nat_eq k j)) [ inl t ↦ rw t refl | inr f ↦ rw f (elim h [ inl e ↦ absurd (other k j f e) | inr m ↦ m ]) ]
  where
    other : (k j : ℕ) → nat_eq k j ≡ false → some j ≡ Some k → ⊥
    other k j f e = let same : j ≡ k = cc in absurd (true_false (sym (eq-eqb k j (sym same)) ∙ f))
      where
        true_false : true ≡ false → ⊥
        true_false h = absurd (cc)

pub numbers_has : (ws : List (List ℕ)) (ns : List Name) (k : ℕ) → has (numbers_of ws ns) k ≡ true → (n : Name) × Among n ns × (number ws n.word ≡ Some k)
numbers_has ws [] k h = absurd (cc)
numbers_has ws (n ∷ ns) k h =
    elim (has_put (number ws n.word) (numbers_of ws ns) k h) [
      | inl e ↦ (n, here n ns, e)
      | inr m ↦ let r = numbers_has ws ns k m in (r.0, there r.0 n ns r.1, r.2)
    ]

pub has_number : (ws : List (List ℕ)) (ns : List Name) (n : Name) (k : ℕ) → Among n ns → number ws n.word ≡ Some k → has (numbers_of ws ns) k ≡ true
has_number ws _ n k (here _ ns) e = put_has (number ws n.word) (numbers_of ws ns) k (inl e)
has_number ws _ n k (there _ m ns q) e = put_has (number ws m.word) (numbers_of ws ns) k (inr (has_number ws ns n k q e))

words_length : (ns : List Name) → length (words ns) ≡ length ns
words_length [] = refl
words_length (n ∷ ns) = ap suc (words_length ns)

word_at : (ns : List Name) (k : ℕ) → k < length ns → get_or (words ns) k [] ≡ (get_or ns k no_name).word
word_at [] k lt = absurd (omega (arith, lt))
word_at (n ∷ ns) zero lt = refl
word_at (n ∷ ns) (suc k) lt = word_at ns k (omega (arith, lt))

-- The numbers of names are the places of the variables that are named.
pub picks : (vs ns : List Name) (ws : List (List ℕ)) → words vs ≡ ws → AreNumbered ws → Picks (λ (n : Name). names_word ns n.word) vs (numbers_of ws ns)
picks vs ns ws e numbered = record {
  within = λ k h.
      let r = numbers_has ws ns k h in
      let s = number_at ws r.0.word k r.2 in
      omega (arith, s.0, ap length e, words_length vs);
  passes = λ k h.
      let r = numbers_has ws ns k h in
      let s = number_at ws r.0.word k r.2 in
      let lt : k < length vs = omega (arith, s.0, ap length e, words_length vs) in
      let w : (get_or vs k no_name).word ≡ r.0.word = sym (word_at vs k lt) ∙ ap (λ us. get_or us k []) e ∙ s.1 in
      ap (λ u. names_word ns u) w ∙ has_word ns r.0 r.1;
  all = λ k lt h.
      let r = word_has ns (get_or vs k no_name).word h in
      let within : k < length ws = omega (arith, lt, ap length e, words_length vs) in
      has_number ws ns r.0 k r.1 (ap (number ws) (r.2 ∙ sym (word_at vs k lt) ∙ ap (λ us. get_or us k []) e) ∙ numbered k within);
}

-- in another order
pub picks_sorted : (P : Name → Bool) (vs : List Name) (ks ms : List ℕ) → IsPermutation ks ms → Picks P vs ks → Picks P vs ms
picks_sorted P vs ks ms p h =
    let same = λ (k : ℕ). list_any-IsPermutation (nat_eq k) ks ms p in
    record {
      within = λ k e. h.within k (same k ∙ e);
      passes = λ k e. h.passes k (same k ∙ e);
      all = λ k lt e. sym (same k) ∙ h.all k lt e;
    }

-- names without repetition are numbered
no_repeat_numbered : (vs : List Name) → NoRepeat vs → AreNumbered (words vs)
no_repeat_numbered [] h k lt = absurd (omega (arith, lt))
no_repeat_numbered (n ∷ vs) h zero lt = found_first n.word (words vs) n.word (bytes_same n.word n.word refl)
no_repeat_numbered (n ∷ vs) h (suc k) lt =
    let less : k < length (words vs) = omega (arith, lt) in
    let inside : k < length vs = omega (arith, less, words_length vs) in
    let m = at_index vs k (get_or vs k no_name) no_name inside refl in
    let differ : bytes_eq n.word (get_or (words vs) k []) ≡ false = other_bytes n.word (get_or (words vs) k []) (λ e. h.0 (get_or vs k no_name) m (sym (word_at vs k inside) ∙ sym e)) in
    found_later n.word (words vs) (get_or (words vs) k []) differ ∙ ap (option_map suc) (no_repeat_numbered vs h.1 k less)

pub firsts_numbered : (vs ns : List Name) (ws : List (List ℕ)) → vs ≡ firsts [] ns → words vs ≡ ws → AreNumbered ws
firsts_numbered vs ns ws e h = subst AreNumbered h (no_repeat_numbered vs (subst NoRepeat (sym e) (no_repeat [] ns tt)))
