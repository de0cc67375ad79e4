-- Formulas that speak of later copies.
use Rattle.std.specs.Prelude.{ℕ, ◌+◌, ◌≤◌, ◌^◌, cond, List, [], ◌∷◌, map}
use Rattle.fo_core.specs.declared.signature.Sig.{Sig}
use Rattle.fo_core.specs.declared.term.Term.{Term, Var, App', Row_of-Term, end_of-Term, more_of-Term}
use Rattle.fo_core.specs.declared.term.Term.TheVariants as T
use Rattle.fo_core.specs.declared.formula.Formula.{Formula, True, False, Rel, Eq, Not', And', Or', All', Ex', Row_of-Formula, end_of-Formula, more_of-Formula}
use Rattle.fo_core.specs.declared.formula.Formula.TheVariants as F
use Rattle.fo_core.specs.Sorted.{IsTerm, IsFormula}
use Rattle.fo_core.specs.Tables.{symbol_at}

module _ (sig : Sig) (by : ℕ) where
  -- the copy of which a symbol speaks after the move: a mutable one `by` copies on, an immutable
  -- one the same
  abbrev pub moved : ℕ → ℕ → ℕ
  moved k d = cond (symbol_at sig k).mutable (d + by) d

  -- the term with each of its symbols moved
  abbrev mutual
    pub shift_term : Term → Term
    shift_term (Var i) = Var i
    shift_term (App' f d _ args) = T.App f (moved f d) (shift_terms args)

    pub shift_terms : {n : _} → Row_of-Term n → List Term
    shift_terms end_of-Term = []
    shift_terms (more_of-Term t rest) = shift_term t ∷ shift_terms rest

  -- the formula with each of its symbols moved
  abbrev mutual
    pub shift : Formula → Formula
    shift True = True
    shift False = False
    shift (Rel r d args) = Rel r (moved r d) (map shift_term args)
    shift (Eq a b) = Eq (shift_term a) (shift_term b)
    shift (Not' _ (more_of-Formula f _)) = F.Not (shift f)
    shift (And' _ fs) = F.And (shift_row fs)
    shift (Or' _ fs) = F.Or (shift_row fs)
    shift (All' s _ (more_of-Formula f _)) = F.All s (shift f)
    shift (Ex' s _ (more_of-Formula f _)) = F.Ex s (shift f)

    pub shift_row : {n : _} → Row_of-Formula n → List Formula
    shift_row end_of-Formula = []
    shift_row (more_of-Formula f rest) = shift f ∷ shift_row rest

-- the formula is well-sorted under some variables, and each copy of which a mutable symbol in it
-- speaks is a number of 32 bits after the move, too: they are below `copies`
pub record CanShift (sig : Sig) (by : ℕ) (f : Formula) : Type 0 where
  pub copies : ℕ
  pub sorts : List ℕ
  pub sorted : IsFormula sig copies f sorts
  pub room : copies + by ≤ 2 ^ 32

-- the same of a term
pub record CanShiftTerm (sig : Sig) (by : ℕ) (t : Term) : Type 0 where
  pub copies : ℕ
  pub sorts : List ℕ
  pub sort : ℕ
  pub sorted : IsTerm sig copies t sorts sort
  pub room : copies + by ≤ 2 ^ 32
