-- What is the same of copies of two worlds, and how the states come to be that a system reaches.
use Rattle.std.specs.Prelude.{◌≡◌, ◌↔◌, ◌⊎◌, ◌+◌, ◌<◌, ℕ, List, length}
use Rattle.fo_core.specs.declared.formula.Formula.{Formula}
use Rattle.fo_core.specs.declared.system.Step.{Step}
use Rattle.fo_core.specs.declared.system.System.{System}
use Rattle.fo_core.specs.declared.world.World.{World}
use Rattle.fo_core.specs.Runs.{IsState, IsInitial, Violates, LeadsOn, IsStep, Reach, alone, pair}
use Rattle.fo_core.specs.Sorted.{IsFormula, IsStepOf}
use Rattle.fo_core.specs.Tables.{Fits}
use Rattle.fo_core.specs.Truth.{Truth}

-- copy c of v and copy d of w are the same for the system: the same formulas over copy 0 are true
-- there, and both or neither are states, initial, and violate a safety
pub record SameState (sys : System) (v : World) (c : ℕ) (w : World) (d : ℕ) : Type 0 where
  pub truth : (f : Formula) (sorts values : List ℕ) → IsFormula sys.sig 1 f sorts →
      Truth sys.sig v c f values ↔ Truth sys.sig w d f values
  pub state : IsState sys v c ↔ IsState sys w d
  pub initial : IsInitial sys v c ↔ IsInitial sys w d
  pub violates : Violates sys v c ↔ Violates sys w d

-- so are copies c and c + 1 of v and copies d and d + 1 of w: the same formulas over copies 0 and 1
-- are true there, the same transitions lead on, and both or neither are a step
pub record SameStep (sys : System) (v : World) (c : ℕ) (w : World) (d : ℕ) : Type 0 where
  pub truth : (f : Formula) (sorts values : List ℕ) → IsFormula sys.sig 2 f sorts →
      Truth sys.sig v c f values ↔ Truth sys.sig w d f values
  pub leads : (step : Step) → IsStepOf sys.sig step → LeadsOn sys v c step ↔ LeadsOn sys w d step
  pub step : IsStep sys v c ↔ IsStep sys w d

-- copy c alone is a world of one copy, which fits where w does, and in which it is the same state
pub record KeepsAlone (sys : System) (w : World) (c : ℕ) : Type 0 where
  pub fits : Fits sys.sig w → c < length w.copies → Fits sys.sig (alone w c)
  pub one_copy : length (alone w c).copies ≡ 1
  pub same : SameState sys w c (alone w c) 0

-- copies c and c + 1 together are a world of two copies, which fits where w does, and in which they
-- are the same states and the same step; each of the two taken out of it is as taken out of w
pub record KeepsPair (sys : System) (w : World) (c : ℕ) : Type 0 where
  pub fits : Fits sys.sig w → c + 1 < length w.copies → Fits sys.sig (pair w c)
  pub two_copies : length (pair w c).copies ≡ 2
  pub same : SameStep sys w c (pair w c) 0
  pub same_first : SameState sys w c (pair w c) 0
  pub same_second : SameState sys w (c + 1) (pair w c) 1
  pub first : alone (pair w c) 0 ≡ alone w c
  pub second : alone (pair w c) 1 ≡ alone w (c + 1)

-- the world fits the signature and has one copy, which is a state
pub record IsLoneState (sys : System) (s : World) : Type 0 where
  pub fits : Fits sys.sig s
  pub one_copy : length s.copies ≡ 1
  pub state : IsState sys s 0

-- the same, with an initial state
pub record IsLoneInitial (sys : System) (s : World) : Type 0 where
  pub fits : Fits sys.sig s
  pub one_copy : length s.copies ≡ 1
  pub initial : IsInitial sys s 0

-- a step leads to the one-copy world s from a state that is reached within k steps
pub record StepsInto (sys : System) (k : ℕ) (s : World) : Type 0 where
  pub both : World
  pub fits : Fits sys.sig both
  pub two_copies : length both.copies ≡ 2
  pub reached : Reach sys k (alone both 0)
  pub step : IsStep sys both 0
  pub next : s ≡ alone both 1

-- the states that the system reaches, by the number of steps: within no step the initial ones, and
-- within one more step those that are reached without it and those that a step leads to from these
pub record ReachedByStep (sys : System) : Type 0 where
  pub no_step : (s : World) → Reach sys 0 s ↔ IsLoneInitial sys s
  pub one_more : (k : ℕ) (s : World) → Reach sys (k + 1) s ↔ Reach sys k s ⊎ StepsInto sys k s
  pub states : (k : ℕ) (s : World) → Reach sys k s → IsLoneState sys s
