-- What a worker does on the machine in code within one visit, and what it is told.
use Rattle.std.specs.Prelude.{◌≡◌, ℕ, List, [], ◌∷◌, ◌⊎◌}
use Rattle.up_machine.specs.declared.event.Event.{Event}
use Rattle.up_machine.specs.declared.event.Event.TheVariants as E
use Rattle.up_machine.specs.declared.event.Why.{Why}
use Rattle.up_machine.specs.declared.job.Task.TheVariants as T
use Rattle.up_machine.specs.Due.{IsDue}
use Rattle.up_machine.specs.Finding.{HoldsJob}
use Rattle.up_machine.specs.Replay.{worker_of}
use Rattle.up_core.specs.View.{CoreView, now, with_event}
use Rattle.up_seats.specs.Making.{HasMade}
use Rattle.up_seats.specs.Seats.{IsBriefed}
use Rattle.up_visits.specs.declared.asking.Asked.{Asked}
use Rattle.up_visits.specs.declared.asking.Asked.TheVariants as A
use Rattle.up_visits.specs.GivingUp.{NoneGivesUp}
use Rattle.up_visits.specs.Passes.{HasEnded, IsIdle}

-- none of these events, or one of the worker
abbrev pub IsAtMostOneOf : ℕ → List Event → Type 0
IsAtMostOneOf w events =
    (events ≡ []) ⊎ ((e : Event) × (events ≡ e ∷ []) × (worker_of e ≡ w))

-- at most one event came, by the worker
pub record HasActed (before : CoreView) (w : ℕ) (after : CoreView) : Type 0 where
  pub events : List Event
  pub made : HasMade before events after
  pub one : IsAtMostOneOf w events

-- and it doesn't give up by it
pub record HasActedWell (before : CoreView) (w : ℕ) (after : CoreView) : Type 0 where
  pub acted : HasActed before w after
  pub none : NoneGivesUp acted.events

-- the worker has put its job back for this reason, but after the end
abbrev pub HasPutBack : CoreView → ℕ → Why → CoreView → Type 0
HasPutBack before w why after =
    (after ≡ with_event before (E.Return w why)) ⊎ (after ≡ before) × HasEnded (now before)

-- what a worker knows after it has asked: it holds the job of this brief, or one for whose brief it
-- was out of memory; or else it is idle, and waits where that is due
abbrev pub IsTold : CoreView → ℕ → Asked → Type 0
IsTold after w (A.Job brief) = IsBriefed after w brief
IsTold after w A.Unbriefed = HoldsJob (now after) w
IsTold after w A.Made = IsIdle (now after) w
IsTold after w A.Idle = IsIdle (now after) w × IsDue after.sys after.limits (now after) T.Idle
IsTold after w A.Ended = HasEnded (now after)
IsTold after w A.NoMemory = IsIdle (now after) w
