-- The first spot at which a world fails to be a violating run.
use Rattle.std.specs.Prelude.{◌≡◌, ℕ, ◌+◌, ◌-◌, ◌<◌, length}
use Rattle.fo_core.specs.declared.system.System.{System}
use Rattle.fo_core.specs.declared.world.World.{World}
use Rattle.fo_core.specs.Runs.{IsState, IsInitial, IsStep, Violates}
use Rattle.up_cert.specs.declared.spot.Spot.{Spot}
use Rattle.up_cert.specs.declared.spot.What.{What}
use Rattle.up_cert.specs.declared.spot.What.TheVariants.{State, Init, Step, Safety}

-- the first n copies are states
abbrev pub AreStates : System → World → ℕ → Type 0
AreStates sys w n = (c : ℕ) → c < n → IsState sys w c

-- the first n copies each step to the next one
abbrev pub AreSteps : System → World → ℕ → Type 0
AreSteps sys w n = (c : ℕ) → c < n → IsStep sys w c

-- copy k is no state, and the copies before it are
pub record FirstNoState (sys : System) (w : World) (k : ℕ) : Type 0 where
  pub within : k < length w.copies
  pub fails : ¬ IsState sys w k
  pub before : AreStates sys w k

-- all copies are states, and copy 0 is not initial
pub record NotInitial (sys : System) (w : World) (k : ℕ) : Type 0 where
  pub states : AreStates sys w (length w.copies)
  pub fails : ¬ IsInitial sys w 0
  pub number : k ≡ 0

-- copy 0 is initial, copy k doesn't step to the next one, and the copies before it do
pub record FirstNoStep (sys : System) (w : World) (k : ℕ) : Type 0 where
  pub states : AreStates sys w (length w.copies)
  pub initial : IsInitial sys w 0
  pub within : k + 1 < length w.copies
  pub fails : ¬ IsStep sys w k
  pub before : AreSteps sys w k

-- the copies are a run, and the last one violates no safety
pub record NoneViolated (sys : System) (w : World) (k : ℕ) : Type 0 where
  pub states : AreStates sys w (length w.copies)
  pub initial : IsInitial sys w 0
  pub steps : (c : ℕ) → c + 1 < length w.copies → IsStep sys w c
  pub fails : ¬ Violates sys w (length w.copies - 1)
  pub number : k ≡ 0

-- this is what fails first; a run has no spots of other kinds
abbrev pub FailsFirst : System → World → What → ℕ → Type 0
FailsFirst sys w State = FirstNoState sys w
FailsFirst sys w Init = NotInitial sys w
FailsFirst sys w Step = FirstNoStep sys w
FailsFirst sys w Safety = NoneViolated sys w
FailsFirst sys w _ = λ k. ⊥

abbrev pub IsFirstSpot : System → World → Spot → Type 0
IsFirstSpot sys w spot = FailsFirst sys w spot.what spot.number
