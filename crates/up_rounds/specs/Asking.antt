-- Seats with their briefs and answers.
use Rattle.std.specs.Prelude.{◌≡◌, ℕ, ◌≤◌, List, length, Some, slice_get, ◌⊎◌}
use Rattle.fo_core.specs.declared.system.System.{System}
use Rattle.up_machine.specs.declared.brief.Brief.{Brief}
use Rattle.up_machine.specs.declared.event.Event.{Event}
use Rattle.up_machine.specs.Rounds.{IsReport, Takes}
use Rattle.up_jobs.specs.declared.solved.Solved.{Solved}
use Rattle.up_jobs.specs.Solving.{IsSolved}
use Rattle.up_core.specs.View.{CoreView, now}
use Rattle.up_seats.specs.Making.{HasMade}
use Rattle.up_seats.specs.Seats.{IsBriefed, MayStop}
use Rattle.up_rounds.specs.OneRound.{AreReports, AreTakes}

-- the answers are as many as the briefs, and each is the answer to its brief
pub record AreSolved (sys : System) (limit : ℕ) (briefs : List Brief) (solved : List Solved) : Type 0 where
  pub many : length solved ≡ length briefs
  pub each :
      (k : ℕ) (brief : Brief) (answer : Solved) → slice_get briefs k ≡ Some brief →
      slice_get solved k ≡ Some answer → IsSolved sys limit brief answer

-- the first seats hold jobs, with these briefs
abbrev pub AreBriefed : CoreView → List Brief → Type 0
AreBriefed c briefs =
    (k : ℕ) (brief : Brief) → slice_get briefs k ≡ Some brief → IsBriefed c k brief

-- the seats have reported in order, as many as can, of this many that hold jobs
pub record HaveAllReported (before : CoreView) (many : ℕ) (after : CoreView) : Type 0 where
  pub reports : List Event
  pub made : HasMade before reports after
  pub reported : AreReports before.sys before.limits (now before) 0 reports
  pub few : length reports ≤ many
  pub stopped : (length reports ≡ many) ⊎ MayStop after (length reports)
      × ((e : Event) → ¬ IsReport before.sys before.limits (now after) (length reports) e)

-- the seats have taken jobs, up to the first that gets none, and these are their briefs
pub record HaveTaken (before : CoreView) (briefs : List Brief) (after : CoreView) : Type 0 where
  pub takes : List Event
  pub made : HasMade before takes after
  pub taken : AreTakes before.sys before.limits (now before) 0 takes
  pub no_more : (e : Event) → ¬ Takes before.sys before.limits (now after) (length takes) e
  pub many : length briefs ≡ length takes
  pub briefed : AreBriefed after briefs
