-- What has to hold of a formula so that its nodes can be counted.
use Rattle.std.specs.Prelude.{◌≡◌, ℕ, List}
use Rattle.fo_core.specs.declared.formula.Formula.{Formula}
use Rattle.fo_core.specs.declared.signature.Sig.{Sig}
use Rattle.fo_core.specs.Sorted.{IsFormula}

-- a formula that is well-sorted for a signature of so many sorts
pub record CanWeigh (count : ℕ) (f : Formula) : Type 0 where
  pub sig : Sig
  pub copies : ℕ
  pub variables : List ℕ
  pub sorted : IsFormula sig copies f variables
  pub sorts : sig.sorts ≡ count
