-- The variables that are in scope at a part of a body are bound in what the body tells, and are at most 64.
use Rattle.std.proofs.Common.{◌≡◌, ℕ, ◌+◌, ◌<◌, ◌≤◌, ◌++◌, List, [], ◌∷◌, length, refl, sym, ap, ap₂, ◌∙◌, subst, inl, inr, ◌⊎◌, arith, length-append, append-nil}
use Rattle.std.specs.Prelude.{Option, None}
use Rattle.fo_core.specs.declared.names.Names.{Names}
use Rattle.fo_core.specs.declared.signature.Sig.{Sig}
use Rattle.pyv_meaning.specs.declared.variable.Use.{Use}
use Rattle.pyv_meaning.specs.declared.variable.Use.TheVariants.{Binder as Binds}
use Rattle.pyv_meaning.specs.Bodies.{params_of, closure_in, scope_in, part_uses, body_uses, at_part, parts_fault}
use Rattle.pyv_meaning.specs.Closing.{frees, each_free, names_word, free_of, parts}
use Rattle.pyv_meaning.specs.Gets.{Among, here, there}
use Rattle.pyv_meaning.specs.Items.{Body}
use Rattle.pyv_meaning.specs.NameFaults.{fault}
use Rattle.pyv_meaning.specs.Scope.{lookup}
use Rattle.pyv_meaning.specs.Uses.{uses, binder_uses}
use Rattle.pyv_meaning.specs.Tree.{Name, Tree, Trees, Joined, none, more, Conjunction, list_of}
use Rattle.pyv_meaning.proofs.Basics.{both_fine, among_left, among_right, among_either}
use Rattle.pyv_meaning.proofs.Congruent.{told_bound}
use Rattle.pyv_meaning.proofs.Lookups.{has_word, word_has, kept, keeps, in_firsts, NoRepeat, no_repeat, fewer, finds, finds_at, in_turn}
use Rattle.pyv_meaning.proofs.Occurs.{Closes, occurs}
use Rattle.pyv_meaning.proofs.Resolved.{at_level}

-- a list is empty, or has a last element
pub ends : (ns : List Name) → (ns ≡ []) ⊎ ((a : List Name) × (n : Name) × (ns ≡ a ++ n ∷ []))
ends [] = inl refl
ends (n ∷ ns) =
    elim (ends ns) [
      | inl e ↦ inr ([], n, ap (λ (t : List Name). n ∷ t) e)
      | inr r ↦ inr (n ∷ r.0, r.1, ap (λ (t : List Name). n ∷ t) r.2)
    ]

module _ (names : Names) (params : List Name) where
  in_member : (xs : Trees) (n : Name) → Among n (each_free names xs params) → (x : Tree) × Among x (list_of xs) × Among n (frees names x params)
  in_member none n m = elim m [ ]
  in_member (more x xs) n m =
      elim (among_either n (frees names x params) (each_free names xs params) m) [
        | inl q ↦ (x, here _ _, q)
        | inr q ↦ let r = in_member xs n q in (r.0, there _ _ _ r.1, r.2)
      ]

  -- a free variable of a body is one of a part of it
  pub in_part : (x : Tree) (n : Name) → Among n (frees names x params) → (y : Tree) × Among y (parts x) × Among n (frees names y params)
  in_part (Joined p Conjunction xs) n m = in_member xs n m
  in_part x n m = (x, here _ _, m)

module _ (names : Names) (sig : Sig) (b : Body) where
  pub part_told : (xs : List Tree) (x : Tree) (u : Use) → Among x xs → Among u (uses names sig x (scope_in names b x)) → Among u (part_uses names sig b xs)
  part_told _ x u (here _ xs) m = among_left u _ _ m
  part_told _ x u (there _ y xs q) m = among_right u (uses names sig y (scope_in names b y)) _ (part_told xs x u q m)

  pub part_fine : (xs : List Tree) (x : Tree) → parts_fault names sig b xs ≡ None → Among x xs → fault names sig x (at_part names sig b) (scope_in names b x) ≡ None
  part_fine _ x f (here _ xs) = let k = both_fine _ _ f in k.0
  part_fine _ x f (there _ y xs q) = let k = both_fine _ _ f in part_fine xs x k.1 q

  -- what the closure of a part finds is found once the part is closed
  closes : (x : Tree) (m : Name) (v l : ℕ) → lookup None (0 + length (params_of b)) (closure_in names b x) m.word ≡ at_level v l → Closes names sig m v l (params_of b) (scope_in names b x)
  closes x m v l h e = in_turn None 0 (params_of b) (closure_in names b x) m.word ∙ ap (λ (o : Option (ℕ × ℕ)). lookup o (0 + length (params_of b)) (closure_in names b x) m.word) e ∙ h

  closure_distinct : (x : Tree) → NoRepeat (closure_in names b x)
  closure_distinct x = fewer _ _ (no_repeat [] (frees names b.tree (params_of b)) tt)

  -- a free variable of the body is told as bound
  free_told : parts_fault names sig b (parts b.tree) ≡ None → (n : Name) → Among n (free_of names (params_of b) b.tree) → Among (Binds n.place) (part_uses names sig b (parts b.tree))
  free_told f n m =
      let q : Among n (frees names b.tree (params_of b)) = elim (in_firsts [] (frees names b.tree (params_of b)) n m) [ inl z ↦ elim z [ ] | inr r ↦ r ] in
      let p = in_part names (params_of b) b.tree n q in
      let c = keeps (λ (k : Name). names_word (frees names p.0 (params_of b)) k.word) (free_of names (params_of b) b.tree) n m (has_word (frees names p.0 (params_of b)) n p.2) in
      let l = finds None (0 + length (params_of b)) (closure_in names b p.0) n (closure_distinct p.0) c in
      let o = occurs names sig n n.place l.0 p.0 (at_part names sig b) (params_of b) (scope_in names b p.0) (closes p.0 n n.place l.0 l.1) (part_fine (parts b.tree) p.0 f p.1) p.2 in
      part_told (parts b.tree) p.0 (Binds n.place) p.1 (o.0 refl)

  -- What is in scope at a part is told as bound.
  pub scope_told : parts_fault names sig b (parts b.tree) ≡ None → (x : Tree) (n : Name) → Among n (scope_in names b x) → Among (Binds n.place) (body_uses names sig b)
  scope_told f x n m =
      elim (among_either n (params_of b) (closure_in names b x) m) [
        | inl q ↦ among_left _ _ _ (told_bound names b.params n q)
        | inr q ↦ among_right _ (binder_uses names b.params) _ (free_told f n (kept (λ (k : Name). names_word (frees names x (params_of b)) k.word) (free_of names (params_of b) b.tree) n q).0)
      ]

  low_at : (x : Tree) (a : List Name) (n : Name) → fault names sig x (at_part names sig b) (scope_in names b x) ≡ None → closure_in names b x ≡ a ++ n ∷ [] → length (params_of b) + length a < 64
  low_at x a n f e =
      let q : Among n (closure_in names b x) = subst (Among n) (sym e) (among_right n a (n ∷ []) (here _ _)) in
      let k = kept (λ (k : Name). names_word (frees names x (params_of b)) k.word) (free_of names (params_of b) b.tree) n q in
      let w = word_has (frees names x (params_of b)) n.word k.1 in
      let found : lookup None (0 + length (params_of b)) (closure_in names b x) w.0.word ≡ at_level n.place (0 + length (params_of b) + length a) =
      ap₂ (λ (t : List Name) (z : List ℕ). lookup None (0 + length (params_of b)) t z) e w.2 ∙ finds_at None (0 + length (params_of b)) a [] n (λ c z. elim z [ ]) in
      let o = occurs names sig w.0 n.place (0 + length (params_of b) + length a) x (at_part names sig b) (params_of b) (scope_in names b x) (closes x w.0 n.place (0 + length (params_of b) + length a) found) f w.1 in
      omega (arith, o.1)

  -- At most 64 variables are in scope at a part where nothing is at fault.
  pub scope_small : length (params_of b) ≤ 64 → (x : Tree) → fault names sig x (at_part names sig b) (scope_in names b x) ≡ None → length (scope_in names b x) ≤ 64
  scope_small le x f =
      elim (ends (closure_in names b x)) [
        | inl e ↦ subst (λ (t : List Name). length (params_of b ++ t) ≤ 64) (sym e) (subst (λ (t : List Name). length t ≤ 64) (sym (append-nil (params_of b))) le)
        | inr r ↦
            let low = low_at x r.0 r.1 f r.2 in
            subst (λ (t : List Name). length (params_of b ++ t) ≤ 64) (sym r.2) (rw (length-append, length-append) (omega (arith, low)))
      ]
