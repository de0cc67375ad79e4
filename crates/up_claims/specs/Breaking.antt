-- Worlds that show that a property fails.
use Rattle.std.specs.Prelude.{◌≡◌, ℕ, ◌+◌, [], Option, None, Some, length}
use Rattle.std.specs.List.{All}
use Rattle.fo_core.specs.declared.system.System.{System}
use Rattle.fo_core.specs.declared.world.World.{World}
use Rattle.fo_core.specs.Runs.{IsState, IsInitial, LeadsOn, IsViolatingRun}
use Rattle.fo_core.specs.Tables.{Fits}
use Rattle.fo_core.specs.Truth.{Truth}
use Rattle.up_claims.specs.Claims.{step_at, properties, property_at}

-- one initial state, in which the property is false
pub record BreaksAtInit (sys : System) (property : ℕ) (w : World) : Type 0 where
  pub fits : Fits sys.sig w
  pub copies : length w.copies ≡ 1
  pub initial : IsInitial sys w 0
  pub broken : ¬ Truth sys.sig w 0 (property_at sys property) []

-- two states, of which the first has all properties, the transition leads to the second, and the
-- property is false there
pub record BreaksByStep (sys : System) (t property : ℕ) (w : World) : Type 0 where
  pub fits : Fits sys.sig w
  pub copies : length w.copies ≡ 2
  pub state : IsState sys w 0
  pub next_state : IsState sys w 1
  pub holding : All (λ f. Truth sys.sig w 0 f []) (properties sys)
  pub leads : LeadsOn sys w 0 (step_at sys t)
  pub broken : ¬ Truth sys.sig w 1 (property_at sys property) []

-- one of the two: without a transition the first, with a transition the second
abbrev pub Breaks : System → Option ℕ → ℕ → World → Type 0
Breaks sys None property w = BreaksAtInit sys property w
Breaks sys (Some t) property w = BreaksByStep sys t property w

-- a violating run of so many steps
pub record IsViolatingRunOf (sys : System) (steps : ℕ) (w : World) : Type 0 where
  pub run : IsViolatingRun sys w
  pub copies : length w.copies ≡ steps + 1
