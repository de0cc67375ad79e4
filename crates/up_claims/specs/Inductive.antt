-- Properties that hold at the start and that steps keep, and those by which a system is safe.
use Rattle.std.specs.Prelude.{ℕ, ◌+◌, ◌<◌, List, [], length}
use Rattle.std.specs.List.{All}
use Rattle.fo_core.specs.declared.system.System.{System}
use Rattle.fo_core.specs.declared.formula.Formula.{Formula}
use Rattle.fo_core.specs.declared.world.World.{World}
use Rattle.fo_core.specs.Runs.{IsState, IsInitial, IsStep, Violates}
use Rattle.fo_core.specs.Sorted.{AreClosed}
use Rattle.fo_core.specs.Tables.{Fits}
use Rattle.fo_core.specs.Truth.{Truth}
use Rattle.fo_core.specs.Universal.{IsUniversalSentence}
use Rattle.up_claims.specs.Breaking.{BreaksAtInit, BreaksByStep}

-- the formulas are true in copy c
abbrev pub AreTrue : System → List Formula → World → ℕ → Type 0
AreTrue sys fs w c = All (λ f. Truth sys.sig w c f []) fs

-- inductive: the properties are closed formulas over copy 0, every initial state has all of them, and
-- every step from a copy that has them all leads to a copy that has them all
pub record IsInductive (sys : System) (fs : List Formula) : Type 0 where
  pub closed : AreClosed sys.sig fs
  pub starts : (w : World) (c : ℕ) → Fits sys.sig w → c < length w.copies → IsInitial sys w c → AreTrue sys fs w c
  pub keeps : (w : World) (c : ℕ) → Fits sys.sig w → c + 1 < length w.copies → IsStep sys w c → AreTrue sys fs w c → AreTrue sys fs w (c + 1)

-- an invariant: inductive properties, and no state that has them all violates a safety
pub record IsInvariant (sys : System) (fs : List Formula) : Type 0 where
  pub inductive : IsInductive sys fs
  pub safe : (w : World) (c : ℕ) → Fits sys.sig w → c < length w.copies → IsState sys w c → AreTrue sys fs w c → ¬ Violates sys w c

-- a universal invariant: one of universal sentences
pub record IsUniversalInvariant (sys : System) (fs : List Formula) : Type 0 where
  pub invariant : IsInvariant sys fs
  pub universal : All (IsUniversalSentence sys.sig) fs

-- no world shows that a property of the system fails, at the start or by a transition
pub record NothingBreaks (sys : System) : Type 0 where
  pub at_init : (p : ℕ) (w : World) → p < length sys.safeties + length sys.invariants → ¬ BreaksAtInit sys p w
  pub by_step : (t p : ℕ) (w : World) → t < length sys.steps → p < length sys.safeties + length sys.invariants → ¬ BreaksByStep sys t p w
