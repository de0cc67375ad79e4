-- When terms, formulas and systems fit a signature.
use Rattle.std.specs.Prelude.{◌≡◌, ℕ, ◌+◌, ◌-◌, ◌^◌, ◌<◌, ◌≤◌, max, Bool, true, false, cond, List, [], ◌∷◌, ◌++◌, length, slice_index, ⊤}
use Rattle.std.specs.List.{All, AllZip}
use Rattle.fo_core.specs.declared.signature.Sig.{Sig}
use Rattle.fo_core.specs.declared.system.Step.{Step}
use Rattle.fo_core.specs.declared.signature.Symbol.{Symbol}
use Rattle.fo_core.specs.declared.system.System.{System}
use Rattle.fo_core.specs.declared.term.Term.{Term, Var, App', Row_of-Term, end_of-Term, more_of-Term}
use Rattle.fo_core.specs.declared.formula.Formula.{Formula, True, False, Rel, Eq, Not', And', Or', All', Ex', Row_of-Formula, end_of-Formula, more_of-Formula}
use Rattle.fo_core.specs.Tables.{symbol_at}

-- the symbol k is a relation, or a function, as asked, and may be read in copy d: a mutable one in
-- each copy below `copies`, an immutable one in copy 0
pub record IsSymbol (sig : Sig) (copies : ℕ) (relation : Bool) (k d : ℕ) : Type 0 where
  pub within : k < length sig.symbols
  pub kind : (symbol_at sig k).relation ≡ relation
  pub copy : d < cond (symbol_at sig k).mutable copies 1

module _ (sig : Sig) (copies : ℕ) where
  abbrev mutual
    -- a term of sort s, under variables of the sorts ss, that speaks of copies below `copies`
    pub IsTerm : Term → List ℕ → ℕ → Type 0
    IsTerm (Var i) ss s = (i < length ss) × (slice_index ss i ≡ s)
    IsTerm (App' f d _ args) ss s = IsSymbol sig copies false f d × ((symbol_at sig f).result ≡ s) × AreTerms args ss (symbol_at sig f).args

    pub AreTerms : {n : _} → Row_of-Term n → List ℕ → List ℕ → Type 0
    AreTerms end_of-Term ss [] = ⊤
    AreTerms end_of-Term ss (s ∷ rest) = ⊥
    AreTerms (more_of-Term t row) ss [] = ⊥
    AreTerms (more_of-Term t row) ss (s ∷ rest) = IsTerm t ss s × AreTerms row ss rest

  abbrev mutual
    -- a formula, under variables of the sorts ss, that speaks of copies below `copies`
    pub IsFormula : Formula → List ℕ → Type 0
    IsFormula True ss = ⊤
    IsFormula False ss = ⊤
    IsFormula (Rel r d args) ss = IsSymbol sig copies true r d × AllZip (λ t s. IsTerm t ss s) args (symbol_at sig r).args
    IsFormula (Eq a b) ss = (s : ℕ) × IsTerm a ss s × IsTerm b ss s
    IsFormula (Not' _ (more_of-Formula f _)) ss = IsFormula f ss
    IsFormula (And' _ fs) ss = AreFormulas fs ss
    IsFormula (Or' _ fs) ss = AreFormulas fs ss
    IsFormula (All' s _ (more_of-Formula f _)) ss = (s < sig.sorts) × IsFormula f (ss ++ s ∷ [])
    IsFormula (Ex' s _ (more_of-Formula f _)) ss = (s < sig.sorts) × IsFormula f (ss ++ s ∷ [])

    pub AreFormulas : {n : _} → Row_of-Formula n → List ℕ → Type 0
    AreFormulas end_of-Formula ss = ⊤
    AreFormulas (more_of-Formula f rest) ss = IsFormula f ss × AreFormulas rest ss

abbrev mutual
  -- how many binders stand above the deepest place
  pub binders : Formula → ℕ
  binders (Not' _ (more_of-Formula f _)) = binders f
  binders (And' _ fs) = most_binders fs
  binders (Or' _ fs) = most_binders fs
  binders (All' s _ (more_of-Formula f _)) = binders f + 1
  binders (Ex' s _ (more_of-Formula f _)) = binders f + 1
  binders _ = 0

  pub most_binders : {n : _} → Row_of-Formula n → ℕ
  most_binders end_of-Formula = 0
  most_binders (more_of-Formula f rest) = max (binders f) (most_binders rest)

-- closed formulas over copy 0
abbrev pub AreClosed : Sig → List Formula → Type 0
AreClosed sig = All (λ f. IsFormula sig 1 f [])

-- the sorts of the arguments, and of a function's result, are below this number
pub record HasSorts (sorts : ℕ) (s : Symbol) : Type 0 where
  pub args : All (λ n. n < sorts) s.args
  pub result : s.relation ≡ false → s.result < sorts

-- a signature whose symbols have sorts of its own and numbers of 32 bits
pub record IsSig (sig : Sig) : Type 0 where
  pub sorts : All (HasSorts sig.sorts) sig.symbols
  pub few : length sig.symbols < 2 ^ 32 - 1

-- a transition's parameters have sorts of the signature, and its body speaks of copies 0 and 1
pub record IsStepOf (sig : Sig) (step : Step) : Type 0 where
  pub params : All (λ s. s < sig.sorts) step.params
  pub body : IsFormula sig 2 step.body step.params

-- a well-sorted system: axioms, inits, safeties and invariants are closed and speak of copy 0, and
-- transitions and properties have numbers of 32 bits
pub record IsSystem (sys : System) : Type 0 where
  pub signature : IsSig sys.sig
  pub axioms : AreClosed sys.sig sys.axioms
  pub inits : AreClosed sys.sig sys.inits
  pub steps : All (IsStepOf sys.sig) sys.steps
  pub safeties : AreClosed sys.sig sys.safeties
  pub invariants : AreClosed sys.sig sys.invariants
  pub few_steps : length sys.steps < 2 ^ 32
  pub few_properties : length sys.safeties + length sys.invariants < 2 ^ 32

-- no place of these formulas stands under more than n binders
abbrev pub NestAtMost : ℕ → List Formula → Type 0
NestAtMost n = All (λ f. binders f ≤ n)

-- no place of the system's formulas does, where a transition's parameters are binders of its body
pub record IsWithinDepth (n : ℕ) (sys : System) : Type 0 where
  pub axioms : NestAtMost n sys.axioms
  pub inits : NestAtMost n sys.inits
  pub steps : All (λ (step : Step). length step.params + binders step.body ≤ n) sys.steps
  pub safeties : NestAtMost n sys.safeties
  pub invariants : NestAtMost n sys.invariants
