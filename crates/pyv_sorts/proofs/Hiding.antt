-- Variables that come into scope and leave it.
use Rattle.std.proofs.Common.{◌≡◌, ℕ, suc, ◌+◌, ◌-◌, ◌<◌, ◌≤◌, ◌⊎◌, ◌++◌, inl, inr, Bool, true, false, cond, List, [], ◌∷◌, length, map, refl, sym, ap, ◌∙◌, subst, arith, Option, Some, None, Bor, Result, Ok, Err, OnOk, OnErr, append_assoc}
use Rattle.std.specs.Str.{bytes_eq}
use Rattle.indexmap.specs.IndexMap.{IndexMap, get}
use Rattle.pyv_meaning.specs.Scope.{lookup}
use Rattle.pyv_meaning.specs.Tree.{Name}
use Rattle.pyv_meaning.proofs.Lookups.{same_bytes, bytes_same, in_turn}
use Rattle.pyv_sorts.specs.Entering.{entry_names, or_none, Finds, Hides}
use Rattle.pyv_sorts.specs.Placing.{name_in}
use Rattle.pyv_sorts.specs.declared.entry.Entry.{Entry}
use Rattle.pyv_sorts.proofs.Uniting.{either}

abbrev same_word : Bor (List ℕ) → Bor (List ℕ) → Bool
same_word x y = bytes_eq x.now y.now

names_snoc : (es : List Entry) (e : Entry) → entry_names (es ++ e ∷ []) ≡ entry_names es ++ name_in e.name ∷ []
names_snoc [] e = refl
names_snoc (x ∷ es) e = ap (λ ns. name_in x.name ∷ ns) (names_snoc es e)

names_length : (es : List Entry) → length (entry_names es) ≡ length es
names_length [] = refl
names_length (e ∷ es) = ap suc (names_length es)

abbrev at : ℕ → ℕ → Option (ℕ × ℕ)
at p k = Some (p, k)

-- the innermost variable comes first
found_last : (es : List Entry) (e : Entry) (w : List ℕ) → bytes_eq e.name.word.now w ≡ true → lookup None 0 (entry_names (es ++ e ∷ [])) w ≡ Some (e.name.place, length es)
found_last es e w t =
    ap (λ ns. lookup None 0 ns w) (names_snoc es e) ∙ in_turn None 0 (entry_names es) (name_in e.name ∷ []) w
    ∙ rw t (ap (at e.name.place) (omega (arith, names_length es)))

found_before : (es : List Entry) (e : Entry) (w : List ℕ) → bytes_eq e.name.word.now w ≡ false → lookup None 0 (entry_names (es ++ e ∷ [])) w ≡ lookup None 0 (entry_names es) w
found_before es e w f = ap (λ ns. lookup None 0 ns w) (names_snoc es e) ∙ in_turn None 0 (entry_names es) (name_in e.name ∷ []) w ∙ rw f refl

module _ {S : Type 0} (m n : IndexMap (Bor (List ℕ)) (Option (ℕ × ℕ)) S) (es : List Entry) (e : Entry) where
  abbrev IsSet : Option (ℕ × ℕ) → Type 0
  IsSet v = (q : Bor (List ℕ)) → get same_word n q ≡ cond (same_word e.name.word q) (Some v) (get same_word m q)

  hit : (v : Option (ℕ × ℕ)) (q : Bor (List ℕ)) → IsSet v → same_word e.name.word q ≡ true → or_none (get same_word n q) ≡ v
  hit v q h t = ap or_none (h q) ∙ rw t refl

  miss : (v : Option (ℕ × ℕ)) (q : Bor (List ℕ)) → IsSet v → same_word e.name.word q ≡ false → or_none (get same_word n q) ≡ or_none (get same_word m q)
  miss v q h f = ap or_none (h q) ∙ rw f refl

  pub finds_more : Finds m es → IsSet (Some (e.name.place, length es)) → Finds n (es ++ e ∷ [])
  finds_more old h q =
      elim (either (same_word e.name.word q)) [
        | inl t ↦ hit (Some (e.name.place, length es)) q h t ∙ sym (found_last es e q.now t)
        | inr f ↦ miss (Some (e.name.place, length es)) q h f ∙ old q ∙ sym (found_before es e q.now f)
      ]

  finds_less : Finds m (es ++ e ∷ []) → Hides (es ++ e ∷ []) → IsSet e.hidden → Finds n es
  finds_less old hides h q =
      elim (either (same_word e.name.word q)) [
        | inl t ↦ hit e.hidden q h t ∙ hides es [] e refl ∙ ap (λ w. lookup None 0 (entry_names es) w) (same_bytes e.name.word.now q.now t)
        | inr f ↦ miss e.hidden q h f ∙ old q ∙ found_before es e q.now f
      ]

  no_answer : (p k : ℕ) → None ≡ at p k → ⊥
  no_answer p k i = absurd (cc)

  -- the word of a variable in scope is in the table
  there : Finds m (es ++ e ∷ []) → get same_word m e.name.word ≡ None → ⊥
  there old h = no_answer e.name.place (length es) (sym (ap or_none h) ∙ old e.name.word ∙ found_last es e e.name.word.now (bytes_same e.name.word.now e.name.word.now refl))

  pub finds_left : {X E : Type 0} (r : Result X E) → Finds m (es ++ e ∷ []) → Hides (es ++ e ∷ []) → OnOk r (IsSet e.hidden) → OnErr r (get same_word m e.name.word ≡ None) → Finds n es
  finds_left {X = X} {E = E} (Ok x) old hides h k = finds_less old hides h
  finds_left {X = X} {E = E} (Err x) old hides h k = absurd (there old k)

-- the last of a list stands in it or behind what stands in it
split_last : (xs a b : List Entry) (n e : Entry) → xs ++ n ∷ [] ≡ a ++ e ∷ b → ((xs ≡ a) × (n ≡ e)) ⊎ ((c : List Entry) × (xs ≡ a ++ e ∷ c))
split_last [] [] b n e h = inl (refl, head_same h)
  where
    head_same : {x y : Entry} {xs ys : List Entry} → x ∷ xs ≡ y ∷ ys → x ≡ y
    head_same h = cc
split_last [] (y ∷ []) b n e h = absurd (none_left (tail_same h))
  where
    tail_same : {x y : Entry} {xs ys : List Entry} → x ∷ xs ≡ y ∷ ys → xs ≡ ys
    tail_same h = cc

    none_left : {y : Entry} {ys : List Entry} → [] ≡ y ∷ ys → ⊥
    none_left h = absurd (cc)
split_last [] (y ∷ z ∷ a) b n e h = absurd (none_left (tail_same h))
  where
    tail_same : {x y : Entry} {xs ys : List Entry} → x ∷ xs ≡ y ∷ ys → xs ≡ ys
    tail_same h = cc

    none_left : {y : Entry} {ys : List Entry} → [] ≡ y ∷ ys → ⊥
    none_left h = absurd (cc)
split_last (x ∷ xs) [] b n e h = inr (xs, ap (λ z. z ∷ xs) (head_same h))
  where
    head_same : {x y : Entry} {xs ys : List Entry} → x ∷ xs ≡ y ∷ ys → x ≡ y
    head_same h = cc
split_last (x ∷ xs) (y ∷ a) b n e h =
    elim (split_last xs a b n e (tail_same h)) [
      | inl k ↦ inl (ap (λ t. x ∷ t) k.0 ∙ ap (λ z. z ∷ a) (head_same h), k.1)
      | inr k ↦ inr (k.0, ap (λ t. x ∷ t) k.1 ∙ ap (λ z. z ∷ (a ++ e ∷ k.0)) (head_same h))
    ]
  where
    tail_same : {x y : Entry} {xs ys : List Entry} → x ∷ xs ≡ y ∷ ys → xs ≡ ys
    tail_same h = cc

    head_same : {x y : Entry} {xs ys : List Entry} → x ∷ xs ≡ y ∷ ys → x ≡ y
    head_same h = cc

pub hides_more : (es : List Entry) (n : Entry) → Hides es → n.hidden ≡ lookup None 0 (entry_names es) n.name.word.now → Hides (es ++ n ∷ [])
hides_more es n old h a b e i =
    elim (split_last es a b n e i) [
      | inl k ↦ subst (λ (x : Entry). x.hidden ≡ lookup None 0 (entry_names a) x.name.word.now) k.1 (h ∙ ap (λ xs. lookup None 0 (entry_names xs) n.name.word.now) k.0)
      | inr k ↦ old a k.0 e k.1
    ]

pub hides_less : (es : List Entry) (n : Entry) → Hides (es ++ n ∷ []) → Hides es
hides_less es n old a b e i = old a (b ++ n ∷ []) e (ap (λ xs. xs ++ n ∷ []) i ∙ append_assoc a (e ∷ b) (n ∷ []))

pub snoc_length : (es : List Entry) (e : Entry) → length (es ++ e ∷ []) ≡ length es + 1
snoc_length [] e = refl
snoc_length (x ∷ es) e = omega (arith, snoc_length es e)

pub names_count : (es : List Entry) (ns : List Name) → entry_names es ≡ ns → length es ≡ length ns
names_count es ns e = sym (names_length es) ∙ ap length e
