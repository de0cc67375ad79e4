-- An expression of a text, with the bytes of its names.
use Rattle.std.specs.Prelude.{ℕ, ◌-◌, true, false, List, map, take, drop, Option, Some, None}
use Rattle.pv_base.specs.declared.Span.{Span}
use Rattle.pyv_grammar.specs.declared.tree.Bound.{Bound}
use Rattle.pyv_grammar.specs.declared.tree.Expr.{Expr, fold-Expr}
use Rattle.pyv_grammar.specs.declared.tree.Expr.TheOpen.{Expr-F}
use Rattle.pyv_meaning.specs.Tree.{Name, Binder, Tree, Trees, trees_of, Conjunction, Disjunction, Implication, Equivalence, Universal, Existential}
use Rattle.pyv_meaning.specs.Tree as tree

module _ (bytes : List ℕ) where
  -- the bytes of a piece of the text
  abbrev pub word : Span → List ℕ
  word s = take (s.to - s.from) (drop s.from bytes)

  abbrev pub name_of : Span → Name
  name_of s = record { place = s.from; word = word s }

  abbrev pub sort_name : Option Span → Option Name
  sort_name None = None
  sort_name (Some s) = Some (name_of s)

  abbrev pub binder_of : Bound → Binder
  binder_of b = record { name = name_of b.name; sort = sort_name b.sort }

  abbrev pub names_of : List Span → List Name
  names_of = map name_of

  abbrev pub binders_of : List Bound → List Binder
  binders_of = map binder_of

  abbrev pub view_step : Expr-F Tree → Tree
  view_step (Expr-F.True p) = tree.Truth p true
  view_step (Expr-F.False p) = tree.Truth p false
  view_step (Expr-F.Name s b xs) = tree.Named (name_of s) b (trees_of xs)
  view_step (Expr-F.New p x) = tree.New p x
  view_step (Expr-F.Distinct p xs) = tree.Distinct p (trees_of xs)
  view_step (Expr-F.Not p x) = tree.Not p x
  view_step (Expr-F.And p xs) = tree.Joined p Conjunction (trees_of xs)
  view_step (Expr-F.Or p xs) = tree.Joined p Disjunction (trees_of xs)
  view_step (Expr-F.Implies p x y) = tree.Connected p Implication x y
  view_step (Expr-F.Iff p x y) = tree.Connected p Equivalence x y
  view_step (Expr-F.Equal p x y) = tree.Compared p true x y
  view_step (Expr-F.Unequal p x y) = tree.Compared p false x y
  view_step (Expr-F.All p bs x) = tree.Quantified p Universal (binders_of bs) x
  view_step (Expr-F.Ex p bs x) = tree.Quantified p Existential (binders_of bs) x
  view_step (Expr-F.If p x y z) = tree.If p x y z

  abbrev pub view : Expr → Tree
  view = fold-Expr Tree view_step

  abbrev pub views : List Expr → Trees
  views xs = trees_of (map view xs)
