-- Looking names up in scopes that are put together.
use Rattle.std.proofs.Common.{◌≡◌, ℕ, ◌+◌, ◌++◌, ◌||◌, Bool, true, false, cond, List, [], ◌∷◌, length, refl, sym, ap, ◌∙◌, subst, inl, inr, ◌⊎◌, arith}
use Rattle.std.specs.Prelude.{Option, Some, None}
use Rattle.std.specs.List.{filter}
use Rattle.std.specs.Str.{bytes_eq}
use Rattle.std.proofs.lemmas.Slice.Eq.{bytes_eq-Decides}
use Rattle.fo_core.specs.declared.names.Names.{Names}
use Rattle.pyv_meaning.specs.declared.variable.Meaning.{Meaning}
use Rattle.pyv_meaning.specs.declared.variable.Meaning.TheVariants.{Variable, Symbol, Unknown}
use Rattle.pyv_meaning.specs.Closing.{is_capital, if_free, names_word, firsts}
use Rattle.pyv_meaning.specs.Gets.{Among, here, there}
use Rattle.pyv_meaning.specs.Scope.{number, lookup, resolve, variable_or, symbol_or_unknown}
use Rattle.pyv_meaning.specs.Tree.{Name}
use Rattle.pyv_meaning.proofs.Basics.{true_or_false, among_either, first_or}
use Rattle.pyv_meaning.proofs.Resolved.{at_level}

pub same_bytes : (a b : List ℕ) → bytes_eq a b ≡ true → a ≡ b
same_bytes a b h = (bytes_eq-Decides a b).0 h

pub bytes_same : (a b : List ℕ) → a ≡ b → bytes_eq a b ≡ true
bytes_same a b h = (bytes_eq-Decides a b).1 h

pub other_bytes : (a b : List ℕ) → (a ≡ b → ⊥) → bytes_eq a b ≡ false
other_bytes a b h = elim (true_or_false (bytes_eq a b)) [ inl t ↦ absurd (h (same_bytes a b t)) | inr t ↦ t ]

-- no name of the list has the word
abbrev pub Lacks : List Name → List ℕ → Type 0
Lacks xs w = (n : Name) → Among n xs → bytes_eq n.word w ≡ false

pub skips : (found : Option (ℕ × ℕ)) (k : ℕ) (xs : List Name) (w : List ℕ) → Lacks xs w → lookup found k xs w ≡ found
skips found k [] w h = refl
skips found k (e ∷ es) w h = rw (h e (here _ _)) (skips found (k + 1) es w (λ n m. h n (there _ _ _ m)))

pub in_turn : (found : Option (ℕ × ℕ)) (k : ℕ) (xs ys : List Name) (w : List ℕ) → lookup found k (xs ++ ys) w ≡ lookup (lookup found k xs w) (k + length xs) ys w
in_turn found k [] ys w = ap (λ (n : ℕ). lookup found n ys w) (omega arith)
in_turn found k (e ∷ es) ys w =
    in_turn (cond (bytes_eq e.word w) (Some (e.place, k)) found) (k + 1) es ys w
    ∙ ap (λ (n : ℕ). lookup (lookup found k (e ∷ es) w) n ys w) (omega arith)

-- where nothing is found, nothing was before, and no name has the word
pub nothing_found : (found : Option (ℕ × ℕ)) (k : ℕ) (xs : List Name) (w : List ℕ) → lookup found k xs w ≡ None → (found ≡ None) × Lacks xs w
nothing_found found k [] w h = (h, λ n m. elim m [ ])
nothing_found found k (e ∷ es) w h =
    let r = nothing_found (cond (bytes_eq e.word w) (Some (e.place, k)) found) (k + 1) es w h in
    elim (true_or_false (bytes_eq e.word w)) [
      | inl t ↦ absurd (found_here e.place k (rw t at r.0))
      | inr t ↦ (rw t at r.0, λ n m. elim (first_or n e es m) [ inl q ↦ rw q t | inr q ↦ r.1 n q ])
    ]
  where
    found_here : (v l : ℕ) → at_level v l ≡ None → ⊥
    found_here v l h = absurd (cc)

unknown_both : (o : Option (ℕ × ℕ)) (m : Option ℕ) → variable_or o (symbol_or_unknown m) ≡ Unknown → (o ≡ None) × (m ≡ None)
unknown_both None None h = (refl, refl)
unknown_both None (Some k) h = absurd (cc)
unknown_both (Some p) m h = absurd (cc)

-- what is unknown is no variable of the scope, and no symbol
pub unknown_parts : (names : Names) (scope : List Name) (w : List ℕ) → resolve names scope w ≡ Unknown → (lookup None 0 scope w ≡ None) × (number names.symbols w ≡ None)
unfolding resolve
unknown_parts names scope w h = unknown_both (lookup None 0 scope w) (number names.symbols w) h

pub looked_resolves : (names : Names) (scope : List Name) (w : List ℕ) (v l : ℕ) → lookup None 0 scope w ≡ at_level v l → resolve names scope w ≡ Variable v l
unfolding resolve
looked_resolves names scope w v l h = rw h refl

-- ---- first names

pub free_is : (m : Meaning) (n k : Name) → Among n (if_free m k) → (m ≡ Unknown) × (n ≡ k)
free_is Unknown n k m = elim (true_or_false (is_capital k.word)) [ inl t ↦ (refl, only n k (rw t at m)) | inr t ↦ absurd (nothing n (rw t at m)) ]
  where
    only : (n k : Name) → Among n (k ∷ []) → n ≡ k
    only n k m = elim (first_or n k [] m) [ inl e ↦ e | inr q ↦ elim q [ ] ]

    nothing : (n : Name) → Among n [] → ⊥
    nothing n m = elim m [ ]
free_is (Variable v l) n k m = elim m [ ]
free_is (Symbol s) n k m = elim m [ ]

pub has_word : (ns : List Name) (n : Name) → Among n ns → names_word ns n.word ≡ true
has_word _ n (here _ ns) = rw (bytes_same n.word n.word refl) refl
has_word _ n (there _ m ns q) = elim (true_or_false (bytes_eq m.word n.word)) [ inl t ↦ rw t refl | inr t ↦ rw t (has_word ns n q) ]

pub word_has : (ns : List Name) (w : List ℕ) → names_word ns w ≡ true → (m : Name) × Among m ns × (m.word ≡ w)
word_has [] w h = absurd (cc)
word_has (n ∷ ns) w h =
    elim (true_or_false (bytes_eq n.word w)) [
      | inl t ↦ (n, here _ _, same_bytes n.word w t)
      | inr t ↦ let r = word_has ns w (rw t at h) in (r.0, there _ _ _ r.1, r.2)
    ]

pub kept : {A : Type 0} (p : A → Bool) (xs : List A) (x : A) → Among x (filter p xs) → Among x xs × (p x ≡ true)
kept {A = A} p [] x m = elim m [ ]
kept {A = A} p (y ∷ ys) x m =
    elim (true_or_false (p y)) [
      | inl t ↦ elim (first_or x y (filter p ys) (rw t at m)) [
        | inl e ↦ (subst (λ z. Among x (z ∷ ys)) e (here _ _), subst (λ z. p z ≡ true) (sym e) t)
        | inr q ↦ let r = kept p ys x q in (there _ _ _ r.0, r.1)
      ]
      | inr t ↦ let r = kept p ys x (rw t at m) in (there _ _ _ r.0, r.1)
    ]

pub keeps : {A : Type 0} (p : A → Bool) (xs : List A) (x : A) → Among x xs → p x ≡ true → Among x (filter p xs)
keeps {A = A} p _ x (here _ xs) h = rw h (here x (filter p xs))
keeps {A = A} p _ x (there _ y xs m) h = elim (true_or_false (p y)) [ inl t ↦ rw t (there _ _ _ (keeps p xs x m h)) | inr t ↦ rw t (keeps p xs x m h) ]

pub in_firsts : (known ns : List Name) (n : Name) → Among n (firsts known ns) → Among n known ⊎ Among n ns
in_firsts known [] n m = inl m
in_firsts known (k ∷ ns) n m =
    elim (in_firsts (cond (names_word known k.word) known (known ++ k ∷ [])) ns n m) [
      | inr q ↦ inr (there _ _ _ q)
      | inl q ↦ elim (true_or_false (names_word known k.word)) [
        | inl t ↦ inl (rw t at q)
        | inr t ↦ elim (among_either n known (k ∷ []) (rw t at q)) [ inl r ↦ inl r | inr r ↦ inr (elim (first_or n k [] r) [ inl e ↦ subst (λ z. Among n (z ∷ ns)) e (here _ _) | inr z ↦ elim z [ ] ]) ]
      ]
    ]

-- no two names have one word
abbrev pub NoRepeat : List Name → Type 0
NoRepeat [] = Unit {0}
NoRepeat (n ∷ ns) = ((m : Name) → Among m ns → m.word ≡ n.word → ⊥) × NoRepeat ns

pub one_more : (ns : List Name) (n : Name) → names_word ns n.word ≡ false → NoRepeat ns → NoRepeat (ns ++ n ∷ [])
one_more [] n h r = ((λ m q e. elim q [ ]), tt)
one_more (k ∷ ns) n h r =
    let rest : names_word ns n.word ≡ false = right_false (bytes_eq k.word n.word) (names_word ns n.word) h in
    let front : bytes_eq k.word n.word ≡ false = left_false (bytes_eq k.word n.word) (names_word ns n.word) h in (
      (λ m q e. elim (among_either m ns (n ∷ []) q) [
        | inl a ↦ r.0 m a e
        | inr a ↦ elim (first_or m n [] a) [ inl i ↦ true_false (sym (bytes_same k.word n.word (sym e ∙ ap (λ (z : Name). z.word) i)) ∙ front) | inr z ↦ elim z [ ] ]
      ]),
      one_more ns n rest r.1,
    )
  where
    left_false : (a b : Bool) → (a || b) ≡ false → a ≡ false
    left_false false b h = refl
    left_false true b h = absurd (cc)

    right_false : (a b : Bool) → (a || b) ≡ false → b ≡ false
    right_false false b h = h
    right_false true b h = absurd (cc)

    true_false : true ≡ false → ⊥
    true_false h = absurd (cc)

pub no_repeat : (known ns : List Name) → NoRepeat known → NoRepeat (firsts known ns)
no_repeat known [] r = r
no_repeat known (n ∷ ns) r = no_repeat (cond (names_word known n.word) known (known ++ n ∷ [])) ns (elim (true_or_false (names_word known n.word)) [ inl t ↦ rw t r | inr t ↦ rw t (one_more known n t r) ])

pub fewer : (p : Name → Bool) (ns : List Name) → NoRepeat ns → NoRepeat (filter p ns)
fewer p [] r = tt
fewer p (n ∷ ns) r = elim (true_or_false (p n)) [ inl t ↦ rw t (λ m q e. r.0 m (kept p ns m q).0 e, fewer p ns r.1) | inr t ↦ rw t (fewer p ns r.1) ]

pub parted : {A : Type 0} (xs : List A) (x : A) → Among x xs → (a b : List A) × (xs ≡ a ++ x ∷ b)
parted {A = A} _ x (here _ xs) = ([], xs, refl)
parted {A = A} _ x (there _ y xs m) = let r = parted xs x m in (y ∷ r.0, r.1, ap (λ (t : List A). y ∷ t) r.2)

repeat_behind : (a b : List Name) (n : Name) → NoRepeat (a ++ n ∷ b) → Lacks b n.word
repeat_behind [] b n r = λ m q. other_bytes m.word n.word (λ e. r.0 m q e)
repeat_behind (k ∷ a) b n r = repeat_behind a b n r.1

-- the variable of a name is that name, so many behind the start
pub finds_at : (found : Option (ℕ × ℕ)) (k : ℕ) (a b : List Name) (n : Name) → Lacks b n.word → lookup found k (a ++ n ∷ b) n.word ≡ at_level n.place (k + length a)
finds_at found k a b n h =
    in_turn found k a (n ∷ b) n.word
    ∙ ap (λ (t : Bool). lookup (cond t (at_level n.place (k + length a)) (lookup found k a n.word)) (k + length a + 1) b n.word) (bytes_same n.word n.word refl)
    ∙ skips (at_level n.place (k + length a)) (k + length a + 1) b n.word h

pub finds : (found : Option (ℕ × ℕ)) (k : ℕ) (ns : List Name) (n : Name) → NoRepeat ns → Among n ns → (l : ℕ) × (lookup found k ns n.word ≡ at_level n.place l)
finds found k ns n r m =
    let s = parted ns n m in
    (k + length s.0, ap (λ (t : List Name). lookup found k t n.word) s.2 ∙ finds_at found k s.0 s.1 n (repeat_behind s.0 s.1 n (subst NoRepeat s.2 r)))
