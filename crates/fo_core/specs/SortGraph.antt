-- The sort graph of a signature and formulas, the numberings of sorts that rise along it, and its
-- cycles.
use Rattle.std.specs.Prelude.{◌≡◌, ℕ, ◌<◌, ◌≤◌, Bool, true, false, not, List, [], ◌∷◌, length, slice_index, ◌⊎◌, ⊤}
use Rattle.std.specs.List.{All, Any, Contains}
use Rattle.fo_core.specs.declared.signature.Sig.{Sig}
use Rattle.fo_core.specs.declared.system.Step.{Step}
use Rattle.fo_core.specs.declared.signature.Symbol.{Symbol}
use Rattle.fo_core.specs.declared.system.System.{System}
use Rattle.fo_core.specs.declared.formula.Formula.{Formula, True, False, Rel, Eq, Not', And', Or', All', Ex', Row_of-Formula, end_of-Formula, more_of-Formula}
use Rattle.fo_core.specs.declared.order.Purpose.{Purpose}
use Rattle.fo_core.specs.declared.order.Purpose.TheVariants.{Infer, Verify}

-- In negation normal form a quantifier below an odd number of negations is the other one. So a
-- formula is read with a sign, which says whether it stands below an even number of them.

module _ (b : ℕ) where
  abbrev mutual
    -- an existential of sort b stands in the negation normal form of the formula, or of its
    -- negation where the sign is false
    pub HasExistential : Formula → Bool → Type 0
    HasExistential True sign = ⊥
    HasExistential False sign = ⊥
    HasExistential (Rel r d args) sign = ⊥
    HasExistential (Eq x y) sign = ⊥
    HasExistential (Not' _ (more_of-Formula f _)) sign = HasExistential f (not sign)
    HasExistential (And' _ fs) sign = OneHasExistential fs sign
    HasExistential (Or' _ fs) sign = OneHasExistential fs sign
    HasExistential (All' s _ (more_of-Formula f _)) sign = ((sign ≡ false) × (s ≡ b)) ⊎ HasExistential f sign
    HasExistential (Ex' s _ (more_of-Formula f _)) sign = ((sign ≡ true) × (s ≡ b)) ⊎ HasExistential f sign

    pub OneHasExistential : {n : _} → Row_of-Formula n → Bool → Type 0
    OneHasExistential end_of-Formula sign = ⊥
    OneHasExistential (more_of-Formula f rest) sign = HasExistential f sign ⊎ OneHasExistential rest sign

module _ (a b : ℕ) where
  abbrev mutual
    -- an existential of sort b stands there in the scope of a universal of sort a
    pub FormulaEdge : Formula → Bool → Type 0
    FormulaEdge True sign = ⊥
    FormulaEdge False sign = ⊥
    FormulaEdge (Rel r d args) sign = ⊥
    FormulaEdge (Eq x y) sign = ⊥
    FormulaEdge (Not' _ (more_of-Formula f _)) sign = FormulaEdge f (not sign)
    FormulaEdge (And' _ fs) sign = OneFormulaEdge fs sign
    FormulaEdge (Or' _ fs) sign = OneFormulaEdge fs sign
    FormulaEdge (All' s _ (more_of-Formula f _)) sign = ((sign ≡ true) × (s ≡ a) × HasExistential b f sign) ⊎ FormulaEdge f sign
    FormulaEdge (Ex' s _ (more_of-Formula f _)) sign = ((sign ≡ false) × (s ≡ a) × HasExistential b f sign) ⊎ FormulaEdge f sign

    pub OneFormulaEdge : {n : _} → Row_of-Formula n → Bool → Type 0
    OneFormulaEdge end_of-Formula sign = ⊥
    OneFormulaEdge (more_of-Formula f rest) sign = FormulaEdge f sign ⊎ OneFormulaEdge rest sign

-- the symbol is a function from a, among others, to b
pub record Leads (a b : ℕ) (s : Symbol) : Type 0 where
  pub function : s.relation ≡ false
  pub argument : Contains s.args a
  pub result : s.result ≡ b

-- some function of the signature leads from a to b
abbrev pub FunctionEdge : Sig → ℕ → ℕ → Type 0
FunctionEdge sig a b = Any (Leads a b) sig.symbols

-- one of these formulas, or of their negations where the sign is false, has the edge
abbrev pub FormulasEdge : List Formula → Bool → ℕ → ℕ → Type 0
FormulasEdge fs sign a b = Any (λ f. FormulaEdge a b f sign) fs

-- the body of one of these transitions has the edge: their parameters, as outermost existentials,
-- stand below no universal
abbrev pub StepsEdge : List Step → ℕ → ℕ → Type 0
StepsEdge steps a b = Any (λ (step : Step). FormulaEdge a b step.body true) steps

-- the sort graph of a signature and of claims
abbrev pub ClaimsEdge : Sig → List Formula → ℕ → ℕ → Type 0
ClaimsEdge sig claims a b = FunctionEdge sig a b ⊎ FormulasEdge claims true a b

-- what inference looks at: functions, axioms, inits, transitions, and safeties negated
abbrev pub InferEdge : System → ℕ → ℕ → Type 0
InferEdge sys a b =
    FunctionEdge sys.sig a b ⊎
    FormulasEdge sys.axioms true a b ⊎
    FormulasEdge sys.inits true a b ⊎
    StepsEdge sys.steps a b ⊎
    FormulasEdge sys.safeties false a b

-- verification assumes safeties and invariants too, and negates each of them
abbrev pub VerifyEdge : System → ℕ → ℕ → Type 0
VerifyEdge sys a b =
    InferEdge sys a b ⊎
    FormulasEdge sys.safeties true a b ⊎
    FormulasEdge sys.invariants true a b ⊎
    FormulasEdge sys.invariants false a b

-- the sort graph of a system for a purpose
abbrev pub SortEdge : System → Purpose → ℕ → ℕ → Type 0
SortEdge sys Infer = InferEdge sys
SortEdge sys Verify = VerifyEdge sys

-- a number for each of so many sorts, such that numbers rise along each edge
pub record Rises (edge : ℕ → ℕ → Type 0) (sorts : ℕ) (numbers : List ℕ) : Type 0 where
  pub one_each : length numbers ≡ sorts
  pub rising : (a b : ℕ) → edge a b → slice_index numbers a < slice_index numbers b

-- stratified for the purpose: some numbering of the sorts rises along each edge
abbrev pub IsStratified : System → Purpose → Type 0
IsStratified sys purpose = (numbers : List ℕ) × Rises (SortEdge sys purpose) sys.sig.sorts numbers

module _ (edge : ℕ → ℕ → Type 0) where
  -- a walk along edges from a, through the sorts of the list, the last of which is b
  abbrev pub IsWalk : ℕ → List ℕ → ℕ → Type 0
  IsWalk a [] b = a ≡ b
  IsWalk a (c ∷ rest) b = edge a c × IsWalk c rest b

  -- a walk of one edge or more that ends where it began
  abbrev pub IsCycle : List ℕ → Type 0
  IsCycle [] = ⊥
  IsCycle (a ∷ rest) = (1 ≤ length rest) × IsWalk a rest a

-- none of the sorts is less than the first
abbrev pub BeginsLeast : List ℕ → Type 0
BeginsLeast [] = ⊤
BeginsLeast (a ∷ rest) = All (λ b. a ≤ b) rest

-- the lists are equal, or the one comes first in lexicographic order
abbrev pub ComesFirst : List ℕ → List ℕ → Type 0
ComesFirst [] ys = ⊤
ComesFirst (x ∷ xs) [] = ⊥
ComesFirst (x ∷ xs) (y ∷ ys) = (x < y) ⊎ ((x ≡ y) × ComesFirst xs ys)

-- of the cycles with fewest edges, each begun at its least sort, the first in lexicographic order
pub record IsFirstCycle (edge : ℕ → ℕ → Type 0) (cycle : List ℕ) : Type 0 where
  pub closed : IsCycle edge cycle
  pub fewest : (other : List ℕ) → IsCycle edge other → length cycle ≤ length other
  pub begun : BeginsLeast cycle
  pub first : (other : List ℕ) → IsCycle edge other → BeginsLeast other → length other ≡ length cycle → ComesFirst cycle other
