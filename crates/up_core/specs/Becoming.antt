-- What the numbers are after an event.
use Rattle.std.specs.Prelude.{◌≡◌, ℕ, ◌+◌, Bool, List, ◌++◌, Option}
use Rattle.std.specs.Option.{option_to_list}
use Rattle.up_machine.specs.declared.event.Origin.{Origin}
use Rattle.up_machine.specs.declared.event.Origin.TheVariants as O
use Rattle.up_core.specs.declared.state.ClauseEntry.{ClauseEntry}
use Rattle.up_core.specs.declared.state.JobEntry.{JobEntry}
use Rattle.up_core.specs.declared.state.ObligationEntry.{ObligationEntry}
use Rattle.up_core.specs.declared.state.Progress.TheVariants as P
use Rattle.up_core.specs.declared.state.State.{State}
use Rattle.up_core.specs.Steps.{change_where, with_progress, entry_before, work_in, others_of}

-- The numbers, part by part.
pub record IsState (t : State) (clauses : List ClauseEntry) (obligations : List ObligationEntry) (jobs : List JobEntry) (frontier secure : ℕ) (calm : Option ℕ) (productive : ℕ) (ended : Bool) : Type 0 where
  pub clauses_are : t.clauses.items ≡ clauses
  pub obligations_are : t.obligations.items ≡ obligations
  pub jobs_are : t.jobs.items ≡ jobs
  pub frontier_is : t.clauses.frontier ≡ frontier
  pub secure_is : t.secure ≡ secure
  pub calm_is : t.calm ≡ calm
  pub productive_is : t.productive ≡ productive
  pub ended_is : t.ended ≡ ended

-- The numbers t after s, where an origin is found before the obligation that the worker works on,
-- by the event that is to stand at this place: it is rooted, or it waits for the step before it.
abbrev pub IsPreceded : Origin → ℕ → ℕ → State → State → Type 0
IsPreceded (O.Initial u) w found s t =
    IsState t s.clauses.items
    (change_where (work_in w s.jobs.items) (with_progress (P.Rooted found)) s.obligations.items)
    (others_of w s.jobs.items)
    s.clauses.frontier s.secure s.calm (s.productive + 1) s.ended
IsPreceded (O.Step p) w found s t =
    IsState t s.clauses.items
    (change_where (work_in w s.jobs.items) (with_progress P.Waiting) s.obligations.items
    ++ option_to_list (entry_before s.obligations.items (work_in w s.jobs.items) found))
    (others_of w s.jobs.items)
    s.clauses.frontier s.secure s.calm (s.productive + 1) s.ended
