-- What a body means, and its first fault.
use Rattle.std.specs.Prelude.{◌≡◌, ℕ, ◌≤◌, ◌++◌, ◌⊎◌, true, false, List, [], ◌∷◌, length, map, Option, Some, None}
use Rattle.std.specs.List.{AllByRecursion, AllZip}
use Rattle.fo_core.specs.declared.names.Names.{Names}
use Rattle.fo_core.specs.declared.signature.Sig.{Sig}
use Rattle.fo_core.specs.declared.system.Step.{Step}
use Rattle.fo_core.specs.declared.formula.Formula.{Formula}
use Rattle.fo_core.specs.Tables.{symbol_at}
use Rattle.pyv_meaning.specs.declared.fault.SortFault.{SortFault}
use Rattle.pyv_meaning.specs.declared.fault.SortFault.TheVariants.{NotMutable}
use Rattle.pyv_meaning.specs.declared.stand.Stand.{Stand}
use Rattle.pyv_meaning.specs.declared.variable.Use.{Use}
use Rattle.pyv_meaning.specs.Builds.{closed_over, formula_of}
use Rattle.pyv_meaning.specs.Clashes.{clash}
use Rattle.pyv_meaning.specs.Closing.{closure_of, scope_of, parts, whole}
use Rattle.pyv_meaning.specs.Gets.{Gets, GetsOnly, IsFirstUnsorted, binders}
use Rattle.pyv_meaning.specs.Items.{Body}
use Rattle.pyv_meaning.specs.Means.{Means, HaveSorts}
use Rattle.pyv_meaning.specs.NameFaults.{◌then◌, unless, sort_fault, fault}
use Rattle.pyv_meaning.specs.Scope.{number, or_zero}
use Rattle.pyv_meaning.specs.Tree.{Name, Binder, Tree, Universal, bound_names}
use Rattle.pyv_meaning.specs.Uses.{uses, binder_uses}

-- the names of the parameters, which stand around all parts
abbrev pub params_of : Body → List Name
params_of b = bound_names b.params

module _ (names : Names) where
  abbrev pub closure_in : Body → Tree → List Name
  closure_in b x = closure_of names (params_of b) b.tree x

  abbrev pub scope_in : Body → Tree → List Name
  scope_in b x = scope_of names (params_of b) b.tree x

module _ (names : Names) (sig : Sig) where
  -- ---- what its variables get

  abbrev pub part_uses : Body → List Tree → List Use
  part_uses b [] = []
  part_uses b (x ∷ xs) = uses names sig x (scope_in names b x) ++ part_uses b xs

  abbrev pub body_uses : Body → List Use
  body_uses b = binder_uses names b.params ++ part_uses b (parts b.tree)

  -- ---- its meaning

  -- a part means the formula, closed over the body's free variables that the part names, with at most 64 binders
  abbrev pub PartMeans : Body → (ℕ → ℕ) → Tree → Formula → Type 0
  PartMeans b sort_of x f =
      (length (scope_in names b x) ≤ 64) × (g : Formula) × Means names sig b.step sort_of x false (scope_in names b x) g × (f ≡ closed_over sort_of Universal (closure_in names b x) g)

  abbrev pub PartsMean : Body → (ℕ → ℕ) → List Tree → List Formula → Type 0
  PartsMean b sort_of [] [] = Unit {0}
  PartsMean b sort_of (x ∷ xs) (f ∷ fs) = PartMeans b sort_of x f × PartsMean b sort_of xs fs
  PartsMean b sort_of _ _ = ⊥

  -- The body means the formula inside its parameters, where its variables have these sorts: those that they get.
  pub record BodyMeans (b : Body) (sort_of : ℕ → ℕ) (f : Formula) : Type 0 where
    pub gets : AllByRecursion (λ v. Gets (body_uses b) v (sort_of v)) (binders (body_uses b))
    pub params_sorted : HaveSorts names sort_of b.params
    pub part_formulas : List Formula
    pub parts_mean : PartsMean b sort_of (parts b.tree) part_formulas
    pub is : f ≡ whole b.tree part_formulas

  abbrev pub ClaimMeans : Body → Formula → Type 0
  ClaimMeans b f = (sort_of : ℕ → ℕ) × BodyMeans b sort_of f

  abbrev pub IsMutable : Name → ℕ → Type 0
  IsMutable n k = (number names.symbols n.word ≡ Some k) × ((symbol_at sig k).mutable ≡ true)

  pub record StepMeans (b : Body) (step : Step) : Type 0 where
    pub sort_of : ℕ → ℕ
    pub params : step.params ≡ map (λ (n : Name). sort_of n.place) (params_of b)
    pub modifies : AllZip IsMutable b.modifies step.modifies
    pub body : BodyMeans b sort_of step.body

  -- ---- its first fault

  -- a formula is asked of a part
  abbrev pub at_part : Body → Stand
  at_part b = record { step = b.step; ahead = false; formula = true; over = false }

  -- the sorts of parameters
  abbrev pub params_fault : List Binder → Option SortFault
  params_fault [] = None
  params_fault (b ∷ bs) = sort_fault names b.sort then params_fault bs

  abbrev pub mutable_fault : Option ℕ → ℕ → Option SortFault
  mutable_fault None p = Some (NotMutable p)
  mutable_fault (Some k) p = unless (symbol_at sig k).mutable (NotMutable p)

  abbrev pub modifies_fault : List Name → Option SortFault
  modifies_fault [] = None
  modifies_fault (n ∷ ns) = mutable_fault (number names.symbols n.word) n.place then modifies_fault ns

  abbrev pub parts_fault : Body → List Tree → Option SortFault
  parts_fault b [] = None
  parts_fault b (x ∷ xs) = fault names sig x (at_part b) (scope_in names b x) then parts_fault b xs

  -- of its names, in order of tokens
  abbrev pub body_fault : Body → Option SortFault
  body_fault b = params_fault b.params then modifies_fault b.modifies then parts_fault b (parts b.tree)

  -- of its applications, in order of tokens, where its variables have these sorts
  abbrev pub parts_clash : Body → (ℕ → ℕ) → List Tree → Option SortFault
  parts_clash b sort_of [] = None
  parts_clash b sort_of (x ∷ xs) = clash names sig sort_of x None (scope_in names b x) then parts_clash b sort_of xs

  abbrev pub body_clash : Body → (ℕ → ℕ) → Option SortFault
  body_clash b sort_of = parts_clash b sort_of (parts b.tree)

  -- each variable gets one sort, this one
  abbrev pub AreSorted : Body → (ℕ → ℕ) → Type 0
  AreSorted b sort_of = AllByRecursion (λ v. GetsOnly (body_uses b) v (sort_of v)) (binders (body_uses b))

  -- the first fault is that of the names; else of the variables; else, with the sorts that they get, of the applications
  abbrev pub IsBodyFault : Body → SortFault → Type 0
  IsBodyFault b f =
      (body_fault b ≡ Some f)
      ⊎ ((body_fault b ≡ None) × IsFirstUnsorted (body_uses b) (binders (body_uses b)) f)
      ⊎ ((body_fault b ≡ None) × (sort_of : ℕ → ℕ) × AreSorted b sort_of × (body_clash b sort_of ≡ Some f))

  -- nothing is at fault
  pub record IsSound (b : Body) : Type 0 where
    pub names_fine : body_fault b ≡ None
    pub sort_of : ℕ → ℕ
    pub sorted : AreSorted b sort_of
    pub no_clash : body_clash b sort_of ≡ None

  -- the first of these bodies that is at fault has this fault
  abbrev pub IsFirstOfBodies : List Body → SortFault → Type 0
  IsFirstOfBodies [] f = ⊥
  IsFirstOfBodies (b ∷ bs) f = IsBodyFault b f ⊎ (IsSound b × IsFirstOfBodies bs f)

  -- ---- the formula, and the step, of a body without fault

  abbrev pub part_formula : Body → (ℕ → ℕ) → Tree → Formula
  part_formula b sort_of x = closed_over sort_of Universal (closure_in names b x) (formula_of names sig sort_of x false (scope_in names b x))

  abbrev pub part_formulas_of : Body → (ℕ → ℕ) → List Tree → List Formula
  part_formulas_of b sort_of xs = map (part_formula b sort_of) xs

  abbrev pub body_formula : Body → (ℕ → ℕ) → Formula
  body_formula b sort_of = whole b.tree (part_formulas_of b sort_of (parts b.tree))

  -- the numbers of the symbols that are modified
  abbrev pub modified : List Name → List ℕ
  modified ns = map (λ (n : Name). or_zero (number names.symbols n.word)) ns

  abbrev pub body_step : Body → (ℕ → ℕ) → Step
  body_step b sort_of = record { modifies = modified b.modifies; params = map (λ (n : Name). sort_of n.place) (params_of b); body = body_formula b sort_of }
