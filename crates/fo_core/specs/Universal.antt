-- Universal formulas: in negation normal form they have no existential.
use Rattle.std.specs.Prelude.{◌≡◌, Bool, true, false, not, [], ⊤}
use Rattle.fo_core.specs.declared.signature.Sig.{Sig}
use Rattle.fo_core.specs.declared.formula.Formula.{Formula, True, False, Rel, Eq, Not', And', Or', All', Ex', Row_of-Formula, end_of-Formula, more_of-Formula}
use Rattle.fo_core.specs.Sorted.{IsFormula}

abbrev mutual
  -- the formula (true), or its negation (false), has no existential in negation normal form
  pub IsUniversal : Bool → Formula → Type 0
  IsUniversal b True = ⊤
  IsUniversal b False = ⊤
  IsUniversal b (Rel r d args) = ⊤
  IsUniversal b (Eq x y) = ⊤
  IsUniversal b (Not' _ (more_of-Formula f _)) = IsUniversal (not b) f
  IsUniversal b (And' _ fs) = AreUniversal b fs
  IsUniversal b (Or' _ fs) = AreUniversal b fs
  IsUniversal b (All' s _ (more_of-Formula f _)) = (b ≡ true) × IsUniversal b f
  IsUniversal b (Ex' s _ (more_of-Formula f _)) = (b ≡ false) × IsUniversal b f

  pub AreUniversal : {n : _} → Bool → Row_of-Formula n → Type 0
  AreUniversal b end_of-Formula = ⊤
  AreUniversal b (more_of-Formula f rest) = IsUniversal b f × AreUniversal b rest

-- a closed universal formula over copy 0
pub record IsUniversalSentence (sig : Sig) (f : Formula) : Type 0 where
  pub sorted : IsFormula sig 1 f []
  pub universal : IsUniversal true f
