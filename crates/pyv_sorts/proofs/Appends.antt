-- What is appended in steps.
use Rattle.std.proofs.Common.{◌≡◌, ℕ, ◌+◌, ◌<◌, Bool, ◌⊎◌, inl, inr, List, [], ◌∷◌, ◌++◌, length, get_or, drop, append_assoc, append-nil, refl, sym, ap, ap₂, ◌∙◌, Ok, Err, Result, OnOk}
use Rattle.std.specs.declared.alloc.AllocError.{AllocError}
use Rattle.fo_core.specs.declared.names.Names.{Names}
use Rattle.fo_core.specs.declared.signature.Sig.{Sig}
use Rattle.pv_base.specs.declared.Span.{Span}
use Rattle.pyv_grammar.specs.declared.tree.Bound.{Bound}
use Rattle.pyv_grammar.specs.declared.tree.Expr.{Expr}
use Rattle.pyv_grammar.specs.declared.tree.Expr as E
use Rattle.pyv_meaning.specs.declared.variable.Meaning.{Meaning}
use Rattle.pyv_meaning.specs.declared.variable.Meaning.TheVariants.{Variable, Unknown}
use Rattle.pyv_meaning.specs.declared.variable.Side.{Side}
use Rattle.pyv_meaning.specs.declared.variable.Use.{Use}
use Rattle.pyv_meaning.specs.Closing.{frees}
use Rattle.pyv_meaning.specs.Scope.{resolve}
use Rattle.pyv_meaning.specs.Tree.{Name, Trees, none, more, bound_names}
use Rattle.pyv_meaning.specs.Uses.{uses, each_uses, argument_uses, places, first_occurs, side, sides, equated, all_equated, binder_uses}
use Rattle.pyv_meaning.specs.View.{word, binders_of, view, views}
use Rattle.pyv_sorts.proofs.Naming.{front}
use Rattle.pyv_sorts.proofs.Views.{view-Name, view-Distinct, view-Implies, view-Iff, view-Equal, view-Unequal, view-All, view-Ex, view-If}

pub append_again : {A : Type 0} (a d e : List A) → (a ++ d) ++ e ≡ a ++ (d ++ e)
append_again {A = A} a d e = append_assoc a d e

pub append_none : {A : Type 0} (a : List A) → a ++ [] ≡ a
append_none {A = A} a = append-nil a

pub on_ok : {X E : Type 0} (r : Result X E) (P Q : Type 0) → (P → Q) → OnOk r P → OnOk r Q
on_ok {X = X} {E = E} (Ok x) P Q f h = f h
on_ok {X = X} {E = E} (Err e) P Q f h = h

-- two steps are one
pub two_steps : {A : Type 0} (a b c d e u : List A) → u ≡ d ++ e → b ≡ a ++ d → c ≡ b ++ e → c ≡ a ++ u
two_steps {A = A} a b c d e u h i j = rw (j, i, h) (append_assoc a d e)

-- A loop over a list has appended what is told of one more element: f tells what there is of the rest.
pub gathers : {A X : Type 0} (f : List X → List A) (g : List A) (xs : List X) (i : ℕ) (x d : X) → i < length xs → get_or xs i d ≡ x → f (x ∷ drop (i + 1) xs) ≡ g ++ f (drop (i + 1) xs)
    → (before now all : List A) → now ≡ before ++ g → before ++ f (drop i xs) ≡ all → now ++ f (drop (i + 1) xs) ≡ all
gathers {A = A} {X = X} f g xs i x d lt at step before now all e h =
    ap (λ ys. ys ++ f (drop (i + 1) xs)) e ∙ append_assoc before g (f (drop (i + 1) xs)) ∙ ap (λ ys. before ++ ys) (sym (ap f (front xs i x d lt at) ∙ step)) ∙ h

pub no_places : (names : Names) (sig : Sig) (xs : Trees) (scope : List Name) → argument_uses names sig xs [] scope ≡ []
no_places names sig none scope = refl
no_places names sig (more x xs) scope = refl

module _ (names : Names) (sig : Sig) (bytes : List ℕ) (scope : List Name) where
  abbrev told : Expr → List Use
  told x = uses names sig (view bytes x) scope

  pub of_variable : (t : Expr) (s : Span) (b : Bool) (xs : List Expr) (m : Meaning) → t ≡ E.Name s b xs → m ≡ resolve names scope (word bytes s)
      → ((v l : ℕ) × (m ≡ Variable v l)) ⊎ (m ≡ Unknown) → told t ≡ first_occurs m s.from
  of_variable t s b xs m e f g =
      let none : places names sig m ≡ [] = elim g [ inl h ↦ ap (places names sig) h.2 | inr h ↦ ap (places names sig) h ] in
      ap told e ∙ ap (λ x. uses names sig x scope) (view-Name bytes s b xs)
      ∙ ap (λ k. first_occurs k s.from ++ argument_uses names sig (views bytes xs) (places names sig k) scope) (sym f)
      ∙ ap (λ ss. first_occurs m s.from ++ argument_uses names sig (views bytes xs) ss scope) none
      ∙ ap (λ us. first_occurs m s.from ++ us) (no_places names sig (views bytes xs) scope) ∙ append-nil (first_occurs m s.from)

  pub of_distinct : (t : Expr) (p : ℕ) (xs ys zs : List Expr) → t ≡ E.Distinct p xs → ys ≡ xs → zs ≡ xs
      → told t ≡ all_equated (sides names sig (views bytes ys) scope) ++ each_uses names sig (views bytes zs) scope
  of_distinct t p xs ys zs e f g = rw (e, f, g) (ap (λ x. uses names sig x scope) (view-Distinct bytes p xs))

  pub of_pair : (t x y xv yv : Expr) (s : List Name) → ((p : ℕ) × (t ≡ E.Implies p x y)) ⊎ ((p : ℕ) × (t ≡ E.Iff p x y)) → xv ≡ x → yv ≡ y → s ≡ scope
      → told t ≡ told xv ++ uses names sig (view bytes yv) s
  of_pair t x y xv yv s h f g i =
      elim h [
        | inl k ↦ rw (k.1, f, g, i) (ap (λ z. uses names sig z scope) (view-Implies bytes k.0 x y))
        | inr k ↦ rw (k.1, f, g, i) (ap (λ z. uses names sig z scope) (view-Iff bytes k.0 x y))
      ]

  pub of_sides : (t x y xv yv xu yu : Expr) (l r : Side) (s : List Name) → ((p : ℕ) × (t ≡ E.Equal p x y)) ⊎ ((p : ℕ) × (t ≡ E.Unequal p x y)) → xv ≡ x → yv ≡ y → xu ≡ x → yu ≡ y → s ≡ scope
      → l ≡ side names sig (view bytes xv) scope → r ≡ side names sig (view bytes yv) scope
      → told t ≡ equated l r ++ (told xu ++ uses names sig (view bytes yu) s)
  of_sides t x y xv yv xu yu l r s h a b c d i j k =
      elim h [
        | inl m ↦ rw (m.1, j, k, a, b, c, d, i) (ap (λ z. uses names sig z scope) (view-Equal bytes m.0 x y))
        | inr m ↦ rw (m.1, j, k, a, b, c, d, i) (ap (λ z. uses names sig z scope) (view-Unequal bytes m.0 x y))
      ]

  pub of_quantified : (t x xv : Expr) (bs cs ds : List Bound) (s : List Name) → ((p : ℕ) × (t ≡ E.All p bs x)) ⊎ ((p : ℕ) × (t ≡ E.Ex p bs x)) → xv ≡ x → cs ≡ bs → ds ≡ bs
      → s ≡ scope ++ bound_names (binders_of bytes ds) → told t ≡ binder_uses names (binders_of bytes cs) ++ uses names sig (view bytes xv) s
  of_quantified t x xv bs cs ds s h a b c i =
      elim h [
        | inl m ↦ rw (m.1, i, a, b, c) (ap (λ z. uses names sig z scope) (view-All bytes m.0 bs x))
        | inr m ↦ rw (m.1, i, a, b, c) (ap (λ z. uses names sig z scope) (view-Ex bytes m.0 bs x))
      ]

  pub of_conditional : (t x y z xv yv zv : Expr) (p : ℕ) (s1 s2 : List Name) → t ≡ E.If p x y z → xv ≡ x → yv ≡ y → zv ≡ z → s1 ≡ scope → s2 ≡ scope
      → told t ≡ told xv ++ (uses names sig (view bytes yv) s1 ++ uses names sig (view bytes zv) s2)
  of_conditional t x y z xv yv zv p s1 s2 e a b c i j = rw (e, a, b, c, i, j) (ap (λ w. uses names sig w scope) (view-If bytes p x y z))

module _ (names : Names) (bytes : List ℕ) (scope : List Name) where
  abbrev free_in : Expr → List Name
  free_in x = frees names (view bytes x) scope

  pub frees_pair : (t x y xv yv : Expr) (s : List Name)
      → ((p : ℕ) × (t ≡ E.Implies p x y)) ⊎ ((p : ℕ) × (t ≡ E.Iff p x y)) ⊎ ((p : ℕ) × (t ≡ E.Equal p x y)) ⊎ ((p : ℕ) × (t ≡ E.Unequal p x y)) → xv ≡ x → yv ≡ y → s ≡ scope
      → free_in t ≡ free_in xv ++ frees names (view bytes yv) s
  frees_pair t x y xv yv s h f g i =
      elim h [
        | inl k ↦ rw (k.1, f, g, i) (ap (λ z. frees names z scope) (view-Implies bytes k.0 x y))
        | inr r ↦ elim r [
          | inl k ↦ rw (k.1, f, g, i) (ap (λ z. frees names z scope) (view-Iff bytes k.0 x y))
          | inr q ↦ elim q [
            | inl k ↦ rw (k.1, f, g, i) (ap (λ z. frees names z scope) (view-Equal bytes k.0 x y))
            | inr k ↦ rw (k.1, f, g, i) (ap (λ z. frees names z scope) (view-Unequal bytes k.0 x y))
          ]
        ]
      ]

  pub frees_quantified : (t x xv : Expr) (bs cs : List Bound) (s : List Name) → ((p : ℕ) × (t ≡ E.All p bs x)) ⊎ ((p : ℕ) × (t ≡ E.Ex p bs x)) → xv ≡ x → cs ≡ bs
      → s ≡ scope ++ bound_names (binders_of bytes cs) → free_in t ≡ frees names (view bytes xv) s
  frees_quantified t x xv bs cs s h a b i =
      elim h [
        | inl m ↦ rw (m.1, i, a, b) (ap (λ z. frees names z scope) (view-All bytes m.0 bs x))
        | inr m ↦ rw (m.1, i, a, b) (ap (λ z. frees names z scope) (view-Ex bytes m.0 bs x))
      ]

  pub frees_conditional : (t x y z xv yv zv : Expr) (p : ℕ) (s1 s2 : List Name) → t ≡ E.If p x y z → xv ≡ x → yv ≡ y → zv ≡ z → s1 ≡ scope → s2 ≡ scope
      → free_in t ≡ free_in xv ++ (frees names (view bytes yv) s1 ++ frees names (view bytes zv) s2)
  frees_conditional t x y z xv yv zv p s1 s2 e a b c i j = rw (e, a, b, c, i, j) (ap (λ w. frees names w scope) (view-If bytes p x y z))
