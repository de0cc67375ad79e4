-- Bodies by the parts that are closed each by itself.
use Rattle.std.specs.Prelude.{◌≡◌, ℕ, ◌++◌, ◌⊎◌, Bool, true, false, List, [], ◌∷◌, map, slice_index_or, Option, Some, None}
use Rattle.fo_core.specs.declared.names.Names.{Names}
use Rattle.fo_core.specs.declared.signature.Sig.{Sig}
use Rattle.fo_core.specs.declared.formula.Formula.{Formula}
use Rattle.fo_core.specs.declared.formula.Formula.TheVariants as F
use Rattle.pyv_grammar.specs.declared.tree.Expr.{Expr}
use Rattle.pyv_meaning.specs.declared.fault.SortFault.{SortFault}
use Rattle.pyv_meaning.specs.declared.stand.Stand.{Stand}
use Rattle.pyv_meaning.specs.declared.variable.Use.{Use}
use Rattle.pyv_meaning.specs.Builds.{closed_over, formula_of}
use Rattle.pyv_meaning.specs.Clashes.{clash}
use Rattle.pyv_meaning.specs.Closing.{parts, whole}
use Rattle.pyv_meaning.specs.Gets.{IsFirstUnsorted, binders}
use Rattle.pyv_meaning.specs.NameFaults.{◌then◌, fault}
use Rattle.pyv_meaning.specs.Tree.{Name, Binder, Tree, Trees, none, more, Joined, Conjunction, Universal, bound_names}
use Rattle.pyv_meaning.specs.Uses.{uses, binder_uses}
use Rattle.pyv_meaning.specs.View.{view, views}
use Rattle.pyv_sorts.specs.Closures.{each_frees, closures_of}
use Rattle.pyv_sorts.specs.Inferring.{AreSorted}

-- a formula is asked of a part
abbrev pub part_stand : Bool → Stand
part_stand step = record { step = step; ahead = false; formula = true; over = false }

-- what a tree has as its parts: the members of a list of `&`, if it is one
abbrev pub HasParts : List ℕ → Expr → Option (List Expr) → Type 0
HasParts bytes t (Some ms) = (p : ℕ) × (view bytes t ≡ Joined p Conjunction (views bytes ms))
HasParts bytes t None = (parts (view bytes t) ≡ view bytes t ∷ []) × ((fs : List Formula) → whole (view bytes t) fs ≡ slice_index_or fs 0 F.True)

module _ (names : Names) (sig : Sig) where
  -- of parts inside parameters, each with the variables over which it is closed
  abbrev pub faults_in : Stand → List Name → Trees → List (List Name) → Option SortFault
  faults_in a params none cs = None
  faults_in a params (more x xs) [] = None
  faults_in a params (more x xs) (c ∷ cs) = fault names sig x a (params ++ c) then faults_in a params xs cs

  abbrev pub uses_in : List Name → Trees → List (List Name) → List Use
  uses_in params none cs = []
  uses_in params (more x xs) [] = []
  uses_in params (more x xs) (c ∷ cs) = uses names sig x (params ++ c) ++ uses_in params xs cs

  abbrev pub clash_in : (ℕ → ℕ) → List Name → Trees → List (List Name) → Option SortFault
  clash_in sort_of params none cs = None
  clash_in sort_of params (more x xs) [] = None
  clash_in sort_of params (more x xs) (c ∷ cs) = clash names sig sort_of x None (params ++ c) then clash_in sort_of params xs cs

  abbrev pub formulas_in : (ℕ → ℕ) → List Name → Trees → List (List Name) → List Formula
  formulas_in sort_of params none cs = []
  formulas_in sort_of params (more x xs) [] = []
  formulas_in sort_of params (more x xs) (c ∷ cs) = closed_over sort_of Universal c (formula_of names sig sort_of x false (params ++ c)) ∷ formulas_in sort_of params xs cs

  abbrev pub closures_in : List Binder → Trees → List (List Name)
  closures_in bs xs = closures_of (each_frees names (bound_names bs) xs)

  abbrev pub parts_uses : List Binder → Trees → List Use
  parts_uses bs xs = binder_uses names bs ++ uses_in (bound_names bs) xs (closures_in bs xs)

  abbrev pub parts_fault_of : Bool → List Binder → Trees → Option SortFault
  parts_fault_of step bs xs = faults_in (part_stand step) (bound_names bs) xs (closures_in bs xs)

  -- parts without fault have these formulas, and their parameters these sorts
  pub record ArePartsBuilt (step : Bool) (bs : List Binder) (xs : Trees) (params : List ℕ) (formulas : List Formula) : Type 0 where
    pub names_fine : parts_fault_of step bs xs ≡ None
    pub sort_of : ℕ → ℕ
    pub sorted : AreSorted (parts_uses bs xs) sort_of
    pub no_clash : clash_in sort_of (bound_names bs) xs (closures_in bs xs) ≡ None
    pub formulas_are : formulas ≡ formulas_in sort_of (bound_names bs) xs (closures_in bs xs)
    pub params_are : params ≡ map (λ (n : Name). sort_of n.place) (bound_names bs)

  -- the first fault is that of the names; else of the variables; else of the applications
  abbrev pub IsFaultOfParts : Bool → List Binder → Trees → SortFault → Type 0
  IsFaultOfParts step bs xs f =
      (parts_fault_of step bs xs ≡ Some f)
      ⊎ ((parts_fault_of step bs xs ≡ None) × IsFirstUnsorted (parts_uses bs xs) (binders (parts_uses bs xs)) f)
      ⊎ ((parts_fault_of step bs xs ≡ None) × (sort_of : ℕ → ℕ) × AreSorted (parts_uses bs xs) sort_of × (clash_in sort_of (bound_names bs) xs (closures_in bs xs) ≡ Some f))
