-- What the calls ask for, and which transition or safety they answer.
use Rattle.std.specs.Prelude.{◌≡◌, [], ◌++◌, slice_index_or, ℕ, ◌+◌, ◌-◌, ◌<◌, ◌≤◌, ◌^◌, true, List, length, map, slice_index}
use Rattle.std.specs.List.{All, AllZip}
use Rattle.fo_core.specs.declared.signature.Sig.{Sig}
use Rattle.fo_core.specs.declared.formula.Formula.{Formula}
use Rattle.fo_core.specs.declared.system.Step.{Step}
use Rattle.fo_core.specs.declared.system.System.{System}
use Rattle.fo_core.specs.declared.term.Term.{Term}
use Rattle.fo_core.specs.declared.world.World.{World}
use Rattle.fo_core.specs.Tables.{IsReadable, tuples, entry, symbol_at}
use Rattle.fo_core.specs.Truth.{value, Truth}
use Rattle.fo_core.specs.Sorted.{IsSymbol, IsTerm, IsFormula, AreClosed, IsSystem, NestAtMost, IsWithinDepth, binders}
use Rattle.fo_core.specs.Runs.{AreElements, IsState, LeadsOn}
use Rattle.fo_eval.specs.Values.{Values}

-- the formula may be evaluated at copy c: it is well-sorted under variables of some sorts, which
-- the environment's values are elements of, the copies of which it speaks are there, and its own
-- variables have room
pub record CanHold (sig : Sig) (w : World) (c : ℕ) (env : Values) (f : Formula) : Type 0 where
  pub sorts : List ℕ
  pub elements : AreElements w.sizes env.bound sorts
  pub sorted : IsFormula sig (length w.copies - c) f sorts
  pub room : length env.bound + binders f ≤ env.room

-- copy c of the world may be judged by the system: the system is well-sorted, the world one of its
-- signature, the copy there, and the environment empty with room for the deepest formula
pub record CanJudge (sys : System) (w : World) (c : ℕ) (env : Values) : Type 0 where
  pub system : IsSystem sys
  pub readable : IsReadable sys.sig w
  pub within : c < length w.copies
  pub empty : env.bound ≡ []
  pub room : IsWithinDepth env.room sys

-- the safety of this number is false in copy c, and each before it is true
pub record IsFirstFalse (sig : Sig) (w : World) (c : ℕ) (fs : List Formula) (k : ℕ) : Type 0 where
  pub within : k < length fs
  pub false_here : (d : Formula) → ¬ Truth sig w c (slice_index_or fs k d) []
  pub true_before : (j : ℕ) (d : Formula) → j < k → Truth sig w c (slice_index_or fs j d) []

-- copies c and c + 1 are states, the transition of this number leads from the one to the other, and
-- none before it does
pub record IsFirstStep (sys : System) (w : World) (c k : ℕ) : Type 0 where
  pub state : IsState sys w c
  pub next_state : IsState sys w (c + 1)
  pub within : k < length sys.steps
  pub leads : (d : Step) → LeadsOn sys w c (slice_index_or sys.steps k d)
  pub none_before : (j : ℕ) (d : Step) → j < k → ¬ LeadsOn sys w c (slice_index_or sys.steps j d)

-- inside the crate

-- the term speaks of what is there, under the variables' sorts
pub record Names (sig : Sig) (w : World) (c : ℕ) (bound : List ℕ) (t : Term) : Type 0 where
  pub sorts : List ℕ
  pub elements : AreElements w.sizes bound sorts
  pub sort : ℕ
  pub sorted : IsTerm sig (length w.copies - c) t sorts sort

-- so do these terms, which have these sorts
pub record AllName (sig : Sig) (w : World) (c : ℕ) (bound : List ℕ) (ts : List Term) (args : List ℕ) : Type 0 where
  pub sorts : List ℕ
  pub elements : AreElements w.sizes bound sorts
  pub sorted : AllZip (λ t s. IsTerm sig (length w.copies - c) t sorts s) ts args
  pub room : tuples (map (slice_index w.sizes) args) < 2 ^ 64

-- the terms fit the relation
abbrev pub AreRelated : Sig → World → ℕ → List ℕ → ℕ → ℕ → List Term → Type 0
AreRelated sig w c bound r d args =
    (sorts : List ℕ) × AreElements w.sizes bound sorts × IsSymbol sig (length w.copies - c) true r d × AllZip (λ t s. IsTerm sig (length w.copies - c) t sorts s) args (symbol_at sig r).args

-- the relation holds of what the terms name
abbrev pub IsRelated : Sig → World → ℕ → List ℕ → ℕ → ℕ → List Term → Type 0
IsRelated sig w c bound r d args = entry sig w (c + d) r (map (λ t. value sig w c t bound) args) ≡ 1

-- closed formulas that may be evaluated in this copy, in an environment with nothing in it and room for them
pub record CanTell (sig : Sig) (w : World) (c : ℕ) (env : Values) (fs : List Formula) : Type 0 where
  pub within : c < length w.copies
  pub closed : AreClosed sig fs
  pub empty : env.bound ≡ []
  pub room : NestAtMost env.room fs

-- the body may be evaluated once elements for these sorts are bound
pub record CanFill (sig : Sig) (w : World) (c : ℕ) (env : Values) (params : List ℕ) (body : Formula) : Type 0 where
  pub sorts : List ℕ
  pub elements : AreElements w.sizes env.bound sorts
  pub sorted : IsFormula sig (length w.copies - c) body (sorts ++ params)
  pub known : All (λ s. s < length w.sizes) params
  pub room : length env.bound + length params + binders body ≤ env.room

-- some elements of these sorts make the body true
abbrev pub SomeFill : Sig → World → ℕ → List ℕ → List ℕ → Formula → Type 0
SomeFill sig w c bound params body = (xs : List ℕ) × AreElements w.sizes xs params × Truth sig w c body (bound ++ xs)
