-- Skolem forms, and what it means that a world meets one.
use Rattle.std.specs.Prelude.{◌≡◌, ℕ, ◌+◌, ◌-◌, ◌<◌, ◌≤◌, ◌^◌, false, List, [], length, ⊤}
use Rattle.std.specs.List.{All}
use Rattle.fo_core.specs.declared.signature.Sig.{Sig}
use Rattle.fo_core.specs.declared.signature.Symbol.{Symbol}
use Rattle.fo_core.specs.declared.formula.Formula.{Formula, Rel, Eq, Not', And', Or', All', Ex', Row_of-Formula, end_of-Formula, more_of-Formula}
use Rattle.fo_core.specs.declared.world.Table.{Table}
use Rattle.fo_core.specs.declared.world.World.{World}
use Rattle.fo_core.specs.Sorted.{HasSorts, IsFormula}
use Rattle.fo_core.specs.Tables.{AreTables, Fits}
use Rattle.fo_core.specs.Truth.{Truth}
use Rattle.fo_core.specs.Skolems.{extended}
use Rattle.fo_norm.specs.Extended.{with_tables}
use Rattle.fo_norm.specs.declared.form.SkolemForm.{SkolemForm}

-- the signature with the form's Skolem functions after its own symbols
abbrev pub whole : Sig → SkolemForm → Sig
whole sig form = extended sig form.skolems

-- the world is one for the signature and has as many copies as the form, and with these tables for
-- the Skolem symbols all its claims are true, with copies counted from 0
pub record MeetsWith (sig : Sig) (form : SkolemForm) (w : World) (ts : List Table) : Type 0 where
  pub fits : Fits sig w
  pub copies : length w.copies ≡ form.copies
  pub tables : AreTables w.sizes form.skolems ts
  pub claims : All (λ f. Truth (whole sig form) (with_tables w ts) 0 f []) form.claims

-- tables for the Skolem symbols exist with which the world meets the claims
abbrev pub MeetsForm : Sig → SkolemForm → World → Type 0
MeetsForm sig form w = (ts : List Table) × MeetsWith sig form w ts

-- an atom
abbrev pub IsAtom : Formula → Type 0
IsAtom (Rel r d args) = ⊤
IsAtom (Eq a b) = ⊤
IsAtom _ = ⊥

abbrev mutual
  -- negation normal form without `Ex`
  pub IsNormal : Formula → Type 0
  IsNormal (Not' _ (more_of-Formula f _)) = IsAtom f
  IsNormal (And' _ fs) = AreNormal fs
  IsNormal (Or' _ fs) = AreNormal fs
  IsNormal (All' s _ (more_of-Formula f _)) = IsNormal f
  IsNormal (Ex' s _ (more_of-Formula f _)) = ⊥
  IsNormal _ = ⊤

  pub AreNormal : {n : _} → Row_of-Formula n → Type 0
  AreNormal end_of-Formula = ⊤
  AreNormal (more_of-Formula f rest) = IsNormal f × AreNormal rest

-- an immutable function of sorts below this number
pub record IsSkolem (below : ℕ) (s : Symbol) : Type 0 where
  pub relation : s.relation ≡ false
  pub mutable : s.mutable ≡ false
  pub sorts : HasSorts below s

-- a Skolem form over the signature: it has a copy, its claims are closed, in negation normal form
-- without existentials, well-sorted for the signature with the Skolem symbols behind it, and speak of
-- its copies alone, and all symbols together have numbers of 32 bits
pub record IsForm (sig : Sig) (form : SkolemForm) : Type 0 where
  pub copies : 1 ≤ form.copies
  pub claims : All (λ f. IsFormula (whole sig form) form.copies f []) form.claims
  pub normal : All IsNormal form.claims
  pub skolems : All (IsSkolem sig.sorts) form.skolems
  pub few : length sig.symbols + length form.skolems < 2 ^ 32 - 1
