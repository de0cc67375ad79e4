-- One seat that takes a job.
use Rattle.std.specs.Prelude.{◌≡◌, ℕ, List, [], ◌∷◌, length, None}
use Rattle.up_machine.specs.declared.brief.Brief.{Brief}
use Rattle.up_machine.specs.declared.event.Event.{Event}
use Rattle.up_machine.specs.declared.job.Job.{Job}
use Rattle.up_machine.specs.declared.job.Task.TheVariants as T
use Rattle.up_machine.specs.Due.{IsDue}
use Rattle.up_machine.specs.Machine.{held_by}
use Rattle.up_machine.specs.Rounds.{Takes}
use Rattle.up_core.specs.View.{CoreView, now}
use Rattle.up_seats.specs.Seats.{IsBriefed}
use Rattle.up_rounds.specs.Asking.{AreBriefed}
use Rattle.up_seats.specs.Making.{HasMade}
use Rattle.up_rounds.specs.OneRound.{AreTakes}

-- where a job is due the seat has none yet
abbrev pub IsFreeFor : CoreView → ℕ → Type 0
IsFreeFor c seat =
    (job : Job) → IsDue c.sys c.limits (now c) (T.Job job) → held_by (now c).jobs seat ≡ None

-- the seat gets no job
pub record HasTakenNone (before : CoreView) (seat : ℕ) (after : CoreView) : Type 0 where
  pub made : HasMade before [] after
  pub none : (e : Event) → ¬ Takes before.sys before.limits (now before) seat e

-- the seat has taken the job that is due, and this is its brief
pub record HasTakenOne (before : CoreView) (seat : ℕ) (brief : Brief) (after : CoreView) : Type 0 where
  pub take : Event
  pub made : HasMade before (take ∷ []) after
  pub taken : Takes before.sys before.limits (now before) seat take
  pub briefed : IsBriefed after seat brief

-- the seats before this one have taken jobs, and these are their briefs
pub record AreTaking (before : CoreView) (briefs : List Brief) (seat : ℕ) (after : CoreView) : Type 0 where
  pub takes : List Event
  pub made : HasMade before takes after
  pub taken : AreTakes before.sys before.limits (now before) 0 takes
  pub seats : length takes ≡ seat
  pub many : length briefs ≡ seat
  pub briefed : AreBriefed after briefs
