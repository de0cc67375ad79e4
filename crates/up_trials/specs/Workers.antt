-- Which workers hold jobs of the machine.
use Rattle.std.specs.Prelude.{◌≡◌, ◌≢◌, ℕ, [], None}
use Rattle.up_machine.specs.Machine.{held_by}
use Rattle.up_core.specs.View.{CoreView, now}

abbrev pub HasNoJobs : CoreView → Type 0
HasNoJobs c = (now c).jobs ≡ []

-- the worker holds no job
abbrev pub IsFree : CoreView → ℕ → Type 0
IsFree c worker = held_by (now c).jobs worker ≡ None

-- The machine is of the same system in the same limits, and what the other workers hold is as it
-- was.
pub record KeepsOthers (before : CoreView) (worker : ℕ) (after : CoreView) : Type 0 where
  pub sys : after.sys ≡ before.sys
  pub limits : after.limits ≡ before.limits
  pub held :
      (other : ℕ) → other ≢ worker →
      held_by (now after).jobs other ≡ held_by (now before).jobs other
