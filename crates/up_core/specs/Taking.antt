-- Since when only jobs were taken.
use Rattle.std.specs.Prelude.{◌≡◌, ℕ, List, ◌∷◌, ◌++◌}
use Rattle.up_machine.specs.declared.event.Event.{Event}
use Rattle.up_machine.specs.declared.event.Event.TheVariants as E
use Rattle.up_machine.specs.declared.job.Job.{Job}
use Rattle.up_machine.specs.Sound.{Each}

-- a job that another worker takes
abbrev pub IsTakeOfOther : ℕ → Event → Type 0
IsTakeOfOther w (E.Take v job) = ¬ (v ≡ w)
IsTakeOfOther w e = ⊥

-- the worker took a job, and since then others took jobs, and nothing else happened
pub record HasOnlyTakesSince (history : List Event) (w : ℕ) : Type 0 where
  pub before : List Event
  pub job : Job
  pub takes : List Event
  pub is : history ≡ before ++ E.Take w job ∷ takes
  pub others : Each takes (λ k e. IsTakeOfOther w e)
