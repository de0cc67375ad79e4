-- Expressions seen as trees.
use Rattle.std.proofs.Common.{◌≡◌, ℕ, Bool, true, false, rules, ◌+◌, List, [], ◌∷◌, length, refl, ap, ◌∙◌, sym, add-one}
use Rattle.pv_base.specs.declared.Span.{Span}
use Rattle.pyv_grammar.specs.declared.tree.Bound.{Bound}
use Rattle.pyv_grammar.specs.declared.tree.Expr.{Expr, the_lemmas}
use Rattle.pyv_grammar.specs.declared.tree.Expr as E
use Rattle.pyv_meaning.specs.Tree.{count, Conjunction, Disjunction, Implication, Equivalence, Universal, Existential}
use Rattle.pyv_meaning.specs.Tree as tree
use Rattle.pyv_meaning.specs.View.{name_of, binders_of, view, views}

pub count_views : (bytes : List ℕ) (xs : List Expr) → count (views bytes xs) ≡ length xs
count_views bytes [] = refl
count_views bytes (x ∷ xs) = ap (λ n. n + 1) (count_views bytes xs) ∙ add-one (length xs)

module _ (bytes : List ℕ) (p : ℕ) where
  pub view-Distinct : (xs : List Expr) → view bytes (E.Distinct p xs) ≡ tree.Distinct p (views bytes xs)
  view-Distinct xs = search (rules, the_lemmas)

  pub view-And : (xs : List Expr) → view bytes (E.And p xs) ≡ tree.Joined p Conjunction (views bytes xs)
  view-And xs = search (rules, the_lemmas)

  pub view-Or : (xs : List Expr) → view bytes (E.Or p xs) ≡ tree.Joined p Disjunction (views bytes xs)
  view-Or xs = search (rules, the_lemmas)

  pub view-Implies : (x y : Expr) → view bytes (E.Implies p x y) ≡ tree.Connected p Implication (view bytes x) (view bytes y)
  view-Implies x y = search (rules, the_lemmas)

  pub view-Iff : (x y : Expr) → view bytes (E.Iff p x y) ≡ tree.Connected p Equivalence (view bytes x) (view bytes y)
  view-Iff x y = search (rules, the_lemmas)

  pub view-Equal : (x y : Expr) → view bytes (E.Equal p x y) ≡ tree.Compared p true (view bytes x) (view bytes y)
  view-Equal x y = search (rules, the_lemmas)

  pub view-Unequal : (x y : Expr) → view bytes (E.Unequal p x y) ≡ tree.Compared p false (view bytes x) (view bytes y)
  view-Unequal x y = search (rules, the_lemmas)

  pub view-All : (bs : List Bound) (x : Expr) → view bytes (E.All p bs x) ≡ tree.Quantified p Universal (binders_of bytes bs) (view bytes x)
  view-All bs x = search (rules, the_lemmas)

  pub view-Ex : (bs : List Bound) (x : Expr) → view bytes (E.Ex p bs x) ≡ tree.Quantified p Existential (binders_of bytes bs) (view bytes x)
  view-Ex bs x = search (rules, the_lemmas)

  pub view-If : (x y z : Expr) → view bytes (E.If p x y z) ≡ tree.If p (view bytes x) (view bytes y) (view bytes z)
  view-If x y z = search (rules, the_lemmas)

pub view-Name : (bytes : List ℕ) (s : Span) (b : Bool) (xs : List Expr) → view bytes (E.Name s b xs) ≡ tree.Named (name_of bytes s) b (views bytes xs)
view-Name bytes s b xs = search (rules, the_lemmas)
