-- What events do to the numbers, list by list.
use Rattle.std.specs.Prelude.{ℕ, zero, suc, ◌-◌, false, true, not, nat_eq, option_map, List, Option, None, Some, slice_get}
use Rattle.std.specs.List.{filter, find}
use Rattle.std.specs.Option.{option_and_then, option_map_or}
use Rattle.up_machine.specs.declared.event.Why.{Why}
use Rattle.up_machine.specs.declared.event.Why.TheVariants as Y
use Rattle.up_machine.specs.declared.job.Job.{Job}
use Rattle.up_machine.specs.declared.job.Job.TheVariants as J
use Rattle.up_machine.specs.Replay.{change_at}
use Rattle.up_core.specs.declared.state.ClauseEntry.{ClauseEntry}
use Rattle.up_core.specs.declared.state.JobEntry.{JobEntry}
use Rattle.up_core.specs.declared.state.ObligationEntry.{ObligationEntry}
use Rattle.up_core.specs.declared.state.Progress.{Progress}
use Rattle.up_core.specs.declared.state.Progress.TheVariants as P

-- the list changed at a place, if one is given
abbrev pub change_where : {X : Type 0} → Option ℕ → (X → X) → List X → List X
change_where None f xs = xs
change_where (Some k) f xs = change_at k f xs

abbrev pub with_progress : Progress → ObligationEntry → ObligationEntry
with_progress p e = record e { progress = p }

-- a clause that is gone has no valid failed push
abbrev pub gone_entry : ClauseEntry → ClauseEntry
gone_entry e = record e { live = false; failed = None }

-- the parent of an obligation, if it is there and has one
abbrev pub parent_in : List ObligationEntry → Option ℕ → Option ℕ
parent_in es place =
    option_and_then (λ (e : ObligationEntry). e.parent) (option_and_then (slice_get es) place)

-- an obligation is done, and its parent ready
abbrev pub finished : Option ℕ → List ObligationEntry → List ObligationEntry
finished place es =
    change_where (parent_in es place) (with_progress P.Ready)
    (change_where place (with_progress P.Done) es)

-- the job of a worker, if it has one
abbrev pub entry_of : ℕ → List JobEntry → Option JobEntry
entry_of w jobs = find (λ (e : JobEntry). nat_eq e.worker w) jobs

abbrev pub work_of_job : Job → Option ℕ
work_of_job (J.Work k) = Some k
work_of_job J.Look = None
work_of_job (J.Push k) = None
work_of_job (J.Trace k) = None

abbrev pub push_of_job : Job → Option ℕ
push_of_job (J.Push k) = Some k
push_of_job J.Look = None
push_of_job (J.Work k) = None
push_of_job (J.Trace k) = None

-- the obligation that a worker works on
abbrev pub work_in : ℕ → List JobEntry → Option ℕ
work_in w jobs = option_and_then (λ (e : JobEntry). work_of_job e.job) (entry_of w jobs)

-- the clause that a worker pushes
abbrev pub push_in : ℕ → List JobEntry → Option ℕ
push_in w jobs = option_and_then (λ (e : JobEntry). push_of_job e.job) (entry_of w jobs)

-- the jobs of other workers
abbrev pub others_of : ℕ → List JobEntry → List JobEntry
others_of w jobs = filter (λ (e : JobEntry). not (nat_eq e.worker w)) jobs

-- the calm after a job was put back: a look that found nothing further sets it
abbrev pub calm_of : Why → ℕ → List JobEntry → Option ℕ → Option ℕ
calm_of Y.NoMore w jobs calm = option_map_or (λ (e : JobEntry). Some e.done) (entry_of w jobs) calm
calm_of (Y.Refuted p k) w jobs calm = calm
calm_of Y.Spent w jobs calm = calm
calm_of Y.NoMemory w jobs calm = calm

-- a clause whose failed push is that of this place
abbrev pub failed_entry : ℕ → ClauseEntry → ClauseEntry
failed_entry found e = record e { failed = Some found }

-- a step into an obligation of level 1 begins in an initial state, so it is its own root
abbrev pub progress_of : ℕ → ℕ → Progress
progress_of (suc (suc i)) found = P.Ready
progress_of (suc zero) found = P.Rooted found
progress_of zero found = P.Rooted found

-- the entry of a step before obligation k, found at this place of the history
abbrev pub before_of : ℕ → ℕ → ObligationEntry → ObligationEntry
before_of k found e = record {
  level = e.level - 1;
  found = found;
  parent = Some k;
  progress = progress_of e.level found;
}

abbrev pub entry_before : List ObligationEntry → Option ℕ → ℕ → Option ObligationEntry
entry_before es None found = None
entry_before es (Some k) found = option_map (before_of k found) (slice_get es k)

-- a clause that rose to this level: its failed push is of a lower one
abbrev pub raised_entry : ℕ → ClauseEntry → ClauseEntry
raised_entry level e = record e { level = level; failed = None }

-- the entry of a clause that is learnt at this level by the event at this place
abbrev pub new_entry : ℕ → ℕ → ClauseEntry
new_entry found level = record { learnt = found; level = level; live = true; failed = None }
