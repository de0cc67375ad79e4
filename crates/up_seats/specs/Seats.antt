-- A seat that holds a job, with its brief and its answer, and what it reports.
use Rattle.std.specs.Prelude.{◌≡◌, ◌≢◌, ℕ, ◌≤◌, Bool, true, false, [], ◌∷◌, None, Some, ◌⊎◌}
use Rattle.up_machine.specs.declared.brief.Brief.{Brief}
use Rattle.up_machine.specs.declared.event.Event.{Event}
use Rattle.up_machine.specs.Due.{IsTrace, job_of}
use Rattle.up_machine.specs.Machine.{Given, held_by}
use Rattle.up_machine.specs.Rounds.{IsReport}
use Rattle.up_jobs.specs.declared.solved.Solved.{Solved}
use Rattle.up_jobs.specs.Reporting.{HasAnswer}
use Rattle.up_jobs.specs.Solving.{CanSolve, IsBriefOf}
use Rattle.up_core.specs.View.{CoreView, now}
use Rattle.up_seats.specs.Making.{HasMade}

-- the brief is that of the job that the seat holds
pub record IsBriefed (c : CoreView) (seat : ℕ) (brief : Brief) : Type 0 where
  pub given : Given
  pub held : held_by (now c).jobs seat ≡ Some given
  pub brief_is : IsBriefOf c.sys.sig given brief
  pub solvable : CanSolve c.sys c.order brief

-- the seat holds a job, and the search of its brief has answered this
abbrev pub IsAnswered : CoreView → ℕ → Brief → Solved → Type 0
IsAnswered c seat brief solved =
    (given : Given) × HasAnswer c.sys c.limits (now c) seat given brief solved

-- why a seat may not report: after the end; or since the steps are spent, and its job is no trace
abbrev pub MayStop : CoreView → ℕ → Type 0
MayStop c seat =
    ((now c).ending ≢ None)
    ⊎ (c.limits.steps ≤ (now c).productive)
    × ((given : Given) → held_by (now c).jobs seat ≡ Some given → ¬ IsTrace (job_of given))

-- the seat has reported, if it did
abbrev pub IsReported : CoreView → ℕ → Bool → CoreView → Type 0
IsReported before seat true after =
    (e : Event) × HasMade before (e ∷ []) after
    × IsReport before.sys before.limits (now before) seat e
IsReported before seat false after =
    (after ≡ before) × ((e : Event) → ¬ IsReport before.sys before.limits (now before) seat e)
    × MayStop before seat
