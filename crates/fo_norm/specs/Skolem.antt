-- The Skolem form of a formula, as functions on its syntax.
use Rattle.std.specs.Prelude.{◌≡◌, ℕ, zero, suc, ◌+◌, Bool, true, false, not, List, [], ◌∷◌, ◌++◌, length, map, slice_index_or}
use Rattle.std.specs.List.{All}
use Rattle.fo_core.specs.declared.signature.Sig.{Sig}
use Rattle.fo_core.specs.declared.signature.Symbol.{Symbol}
use Rattle.fo_core.specs.declared.term.Term.{Term, Var, App', Row_of-Term, end_of-Term, more_of-Term}
use Rattle.fo_core.specs.declared.term.Term.TheVariants as T
use Rattle.fo_core.specs.declared.formula.Formula.{Formula, True, False, Rel, Eq, Not', And', Or', All', Ex', Row_of-Formula, end_of-Formula, more_of-Formula}
use Rattle.fo_core.specs.declared.formula.Formula.TheVariants as F
use Rattle.fo_core.specs.Skolems.{skolem, skolem_symbols}
use Rattle.fo_core.specs.Sorted.{IsTerm, IsFormula}
use Rattle.fo_norm.specs.declared.scope.Slot.{Slot}
use Rattle.fo_norm.specs.declared.scope.Slot.TheVariants.{Level, Skolem}

-- the variables below a level
abbrev pub variables : ℕ → List Term
variables zero = []
variables (suc n) = variables n ++ Var n ∷ []

-- the term that stands for a variable: a universal, or a Skolem function of the first universals
abbrev pub slot_term : Slot → Term
slot_term (Level i) = Var i
slot_term (Skolem k n) = T.App k 0 (variables n)

module _ (slots : List Slot) where
  abbrev mutual
    -- the term with what stands for its variables in their place
    pub filled : Term → Term
    filled (Var i) = slot_term (slice_index_or slots i (Level 0))
    filled (App' f d _ args) = T.App f d (filled_row args)

    pub filled_row : {n : _} → Row_of-Term n → List Term
    filled_row end_of-Term = []
    filled_row (more_of-Term t rest) = filled t ∷ filled_row rest

-- True or False
abbrev pub constant : Bool → Formula
constant true = True
constant false = False

-- the atom or its negation
abbrev pub literal : Bool → Formula → Formula
literal true f = f
literal false f = F.Not f

-- the conjunction or the disjunction
abbrev pub joined : Bool → List Formula → Formula
joined true fs = F.And fs
joined false fs = F.Or fs

abbrev mutual
  -- the formula (true), or its negation (false), in negation normal form, with the slots for its
  -- variables under universals of the sorts us, and with Skolem symbols numbered from `next` on
  pub formed : Bool → Formula → List Slot → List ℕ → ℕ → Formula
  formed b True slots us next = constant b
  formed b False slots us next = constant (not b)
  formed b (Rel r d args) slots us next = literal b (Rel r d (map (filled slots) args))
  formed b (Eq x y) slots us next = literal b (Eq (filled slots x) (filled slots y))
  formed b (Not' _ (more_of-Formula f _)) slots us next = formed (not b) f slots us next
  formed b (And' _ fs) slots us next = joined b (formed_row b fs slots us next)
  formed b (Or' _ fs) slots us next = joined (not b) (formed_row b fs slots us next)
  formed true (All' s _ (more_of-Formula f _)) slots us next = F.All s (formed true f (slots ++ Level (length us) ∷ []) (us ++ s ∷ []) next)
  formed false (All' s _ (more_of-Formula f _)) slots us next = formed false f (slots ++ Skolem next (length us) ∷ []) us (next + 1)
  formed true (Ex' s _ (more_of-Formula f _)) slots us next = formed true f (slots ++ Skolem next (length us) ∷ []) us (next + 1)
  formed false (Ex' s _ (more_of-Formula f _)) slots us next = F.All s (formed false f (slots ++ Level (length us) ∷ []) (us ++ s ∷ []) next)

  pub formed_row : {n : _} → Bool → Row_of-Formula n → List Slot → List ℕ → ℕ → List Formula
  formed_row b end_of-Formula slots us next = []
  formed_row b (more_of-Formula f rest) slots us next = formed b f slots us next ∷ formed_row b rest slots us (next + length (skolem_symbols b f us))

-- the same of a list of formulas
abbrev pub formed_list : Bool → List Formula → List Slot → List ℕ → ℕ → List Formula
formed_list b [] slots us next = []
formed_list b (f ∷ fs) slots us next = formed b f slots us next ∷ formed_list b fs slots us (next + length (skolem_symbols b f us))

-- a term whose variables have slots
pub record CanFill (slots : List Slot) (t : Term) : Type 0 where
  pub sig : Sig
  pub copies : ℕ
  pub sorts : List ℕ
  pub sort : ℕ
  pub sorted : IsTerm sig copies t sorts sort
  pub slotted : length sorts ≡ length slots

-- terms whose variables have slots
abbrev pub CanFillEach : List Slot → List Term → Type 0
CanFillEach slots = All (CanFill slots)

-- a formula whose free variables have slots
pub record CanForm (slots : List Slot) (f : Formula) : Type 0 where
  pub sig : Sig
  pub copies : ℕ
  pub sorts : List ℕ
  pub sorted : IsFormula sig copies f sorts
  pub slotted : length sorts ≡ length slots

-- a formula whose free variables but the last have slots
pub record CanBind (slots : List Slot) (f : Formula) : Type 0 where
  pub sig : Sig
  pub copies : ℕ
  pub sorts : List ℕ
  pub sort : ℕ
  pub sorted : IsFormula sig copies f (sorts ++ sort ∷ [])
  pub slotted : length sorts ≡ length slots

-- the Skolem symbols of a universal of sort s over f
abbrev pub universal_symbols : Bool → ℕ → Formula → List ℕ → List Symbol
universal_symbols b s f us = skolem_symbols b f (us ++ s ∷ [])

-- the Skolem symbols of an existential of sort s over f
abbrev pub existential_symbols : Bool → ℕ → Formula → List ℕ → List Symbol
existential_symbols b s f us = skolem us s ∷ skolem_symbols b f us

-- what a universal of sort s over f becomes
abbrev pub universal : Bool → ℕ → Formula → List Slot → List ℕ → ℕ → Formula
universal b s f slots us next = F.All s (formed b f (slots ++ Level (length us) ∷ []) (us ++ s ∷ []) next)

-- what an existential over f becomes
abbrev pub existential : Bool → Formula → List Slot → List ℕ → ℕ → Formula
existential b f slots us next = formed b f (slots ++ Skolem next (length us) ∷ []) us (next + 1)
