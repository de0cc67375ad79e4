-- Which limits a run may have.
use Rattle.std.specs.Prelude.{ℕ, ◌≤◌}
use Rattle.fo_core.specs.declared.query.TheConstants.{MOST_WEIGHT}
use Rattle.up_machine.specs.declared.limits.Limits.{Limits}
use Rattle.up_machine.specs.declared.limits.TheConstants.{MOST_WORKERS, MOST_SEATS, MOST_FRAMES, MOST_STEPS}

-- at least 1 and at most this
pub record IsFrom1 (most n : ℕ) : Type 0 where
  pub low : 1 ≤ n
  pub high : n ≤ most

-- each limit is in its range
pub record AreInRange (limits : Limits) : Type 0 where
  pub workers : IsFrom1 MOST_WORKERS limits.workers
  pub batch : IsFrom1 MOST_SEATS limits.batch
  pub frames : IsFrom1 MOST_FRAMES limits.frames
  pub steps : IsFrom1 MOST_STEPS limits.steps
  pub weight : IsFrom1 MOST_WEIGHT limits.weight
