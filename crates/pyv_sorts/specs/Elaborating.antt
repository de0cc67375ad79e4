-- What is answered of bodies and declarations.
use Rattle.std.specs.Prelude.{◌≡◌, ℕ, ◌≤◌, ◌⊎◌, Bool, true, List, [], ◌∷◌, length, map, Some, None}
use Rattle.std.specs.List.{AllByRecursion}
use Rattle.fo_core.specs.declared.formula.Formula.{Formula}
use Rattle.pv_base.specs.declared.Span.{Span}
use Rattle.pyv_grammar.specs.declared.tree.Bound.{Bound}
use Rattle.pyv_grammar.specs.declared.tree.Expr.{Expr}
use Rattle.pyv_meaning.specs.declared.fault.SortFault.{SortFault}
use Rattle.pyv_meaning.specs.declared.fault.SortFault.TheVariants.{Memory}
use Rattle.pyv_meaning.specs.Bodies.{params_of, body_uses, parts_fault, body_clash, AreSorted, IsBodyFault, IsFirstOfBodies, body_formula}
use Rattle.pyv_meaning.specs.Closing.{parts}
use Rattle.pyv_meaning.specs.Gets.{IsFirstUnsorted, binders}
use Rattle.pyv_meaning.specs.Items.{Item, Body, body_of as bodies_of, steps}
use Rattle.pyv_meaning.specs.Tree.{Name}
use Rattle.pyv_meaning.specs.View.{binders_of, view}
use Rattle.pyv_sorts.specs.Vocabulary.{Vocabulary}

-- an expression of the text, with what stands before it
abbrev pub body_of : Vocabulary → Bool → List Bound → List Name → Expr → Body
body_of v step params modifies x = record { step = step; params = binders_of v.bytes params; modifies = modifies; tree = view v.bytes x }

-- nothing of the parts is at fault, and this is what is built of the body
pub record IsElaborated (v : Vocabulary) (b : Body) (params : List ℕ) (y : Formula) : Type 0 where
  pub sort_of : ℕ → ℕ
  pub names_fine : parts_fault v.names v.sig b (parts b.tree) ≡ None
  pub sorted : AreSorted v.names v.sig b sort_of
  pub no_clash : body_clash v.names v.sig b sort_of ≡ None
  pub formula : y ≡ body_formula v.names v.sig b sort_of
  pub params_are : params ≡ map (λ (n : Name). sort_of n.place) (params_of b)

-- this is the first fault of the parts
abbrev pub PartsFail : Vocabulary → Body → SortFault → Type 0
PartsFail v b e =
    (parts_fault v.names v.sig b (parts b.tree) ≡ Some e)
    ⊎ ((parts_fault v.names v.sig b (parts b.tree) ≡ None) × IsFirstUnsorted (body_uses v.names v.sig b) (binders (body_uses v.names v.sig b)) e)
    ⊎ ((parts_fault v.names v.sig b (parts b.tree) ≡ None) × (sort_of : ℕ → ℕ) × AreSorted v.names v.sig b sort_of × (body_clash v.names v.sig b sort_of ≡ Some e))

-- this is so of a fault; want of memory is free
abbrev pub OrMemory : (SortFault → Type 0) → SortFault → Type 0
OrMemory P Memory = Unit {0}
OrMemory P e = P e

abbrev pub IsPartsFault : Vocabulary → Body → SortFault → Type 0
IsPartsFault v b = OrMemory (PartsFail v b)

abbrev pub IsFaultOfBody : Vocabulary → Body → SortFault → Type 0
IsFaultOfBody v b = OrMemory (IsBodyFault v.names v.sig b)

-- the body of a declaration, and its fault
abbrev pub IsFaultOfItem : Vocabulary → Item → SortFault → Type 0
IsFaultOfItem v x = OrMemory (λ e. (b : Body) × (bodies_of x ≡ b ∷ []) × IsBodyFault v.names v.sig b e)

abbrev pub IsFaultOfBodies : Vocabulary → List Body → SortFault → Type 0
IsFaultOfBodies v bs = OrMemory (IsFirstOfBodies v.names v.sig bs)

-- transitions have at most 16 parameters
abbrev pub HaveFew : List Item → Type 0
HaveFew items = AllByRecursion (λ (b : Body). length b.params ≤ 16) (steps items)
