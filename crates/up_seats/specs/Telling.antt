-- What a seat tells of its job, as one event.
use Rattle.std.specs.Prelude.{◌≡◌, ℕ, ◌≤◌, true, Some}
use Rattle.fo_core.specs.declared.world.World.{World}
use Rattle.up_machine.specs.declared.brief.Brief.{Brief}
use Rattle.up_machine.specs.declared.event.Event.{Event}
use Rattle.up_machine.specs.declared.event.Origin.{Origin}
use Rattle.up_machine.specs.declared.event.Origin.TheVariants as O
use Rattle.up_machine.specs.Due.{IsTrace, job_of}
use Rattle.up_machine.specs.Legal.{IsLegal}
use Rattle.up_machine.specs.Machine.{Given, held_by}
use Rattle.up_machine.specs.Replay.{is_productive, worker_of}
use Rattle.up_machine.specs.Rounds.{IsOver, IsReport, IsRoundReport}
use Rattle.up_jobs.specs.declared.solved.Solved.{Solved}
use Rattle.up_core.specs.Known.{IsKnown}
use Rattle.up_core.specs.View.{CoreView, now}
use Rattle.up_seats.specs.Seats.{IsAnswered}

-- the seat holds a job, and the search of its brief, whichever that is, has answered this
abbrev pub HasAnswered : CoreView → ℕ → Solved → Type 0
HasAnswered c seat solved = (brief : Brief) × IsAnswered c seat brief solved

-- What the seat reports costs a step: no query of its job is too heavy, once the steps are spent it
-- reports nothing, and its job is no trace.
pub record CostsStep (c : CoreView) (seat : ℕ) : Type 0 where
  pub none_over : (e : Event) → worker_of e ≡ seat → IsOver e → ¬ IsLegal c.sys c.limits (now c) e
  pub none_spent :
      c.limits.steps ≤ (now c).productive → (e : Event) → ¬ IsReport c.sys c.limits (now c) seat e
  pub no_trace : (given : Given) → held_by (now c).jobs seat ≡ Some given → ¬ IsTrace (job_of given)

-- The seat's report is this event, where it can be made now: it is known to be allowed, and rounds
-- report it, before any other.
pub record IsToTell (c : CoreView) (seat : ℕ) (e : Event) : Type 0 where
  pub by_seat : worker_of e ≡ seat
  pub known : IsKnown c e
  pub kind : IsRoundReport (now c) c.limits.steps e
  pub over_first :
      (f : Event) → worker_of f ≡ seat → IsOver f → IsLegal c.sys c.limits (now c) f → IsOver e
  pub costs : is_productive e ≡ true → CostsStep c seat

-- the world that comes before an obligation
abbrev pub world_in : Origin → World
world_in (O.Initial u) = u
world_in (O.Step p) = p
