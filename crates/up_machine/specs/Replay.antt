-- What each event does to the machine, part by part. Effects are total, and test nothing: what may
-- come is said by legality alone.
use Rattle.std.specs.Prelude.{ℕ, zero, suc, ◌-◌, Bool, true, false, not, nat_eq, List, [], ◌∷◌, ◌++◌, Option, None, Some, slice_get, option_map}
use Rattle.std.specs.List.{filter}
use Rattle.std.specs.Option.{option_and_then}
use Rattle.fo_core.specs.declared.world.World.{World}
use Rattle.up_machine.specs.declared.job.Job.{Job}
use Rattle.up_machine.specs.declared.job.Job.TheVariants as J
use Rattle.up_machine.specs.declared.end.End.{End}
use Rattle.up_machine.specs.declared.end.End.TheVariants as N
use Rattle.up_machine.specs.declared.event.Why.TheVariants as Y
use Rattle.up_machine.specs.declared.event.Origin.TheVariants as O
use Rattle.up_machine.specs.declared.event.Event.{Event}
use Rattle.up_machine.specs.declared.event.Event.TheVariants as E
use Rattle.up_machine.specs.Machine.{Clause, Status, Ready, Out, Waiting, Done, Rooted, Obligation, FailedPush, Given, Work, Look, Push, Trace, Held, Machine, start, cubes_from, frame, to_avoid, done_seeds, held_by}

-- the list with one place changed, where it has that place
abbrev pub change_at : {X : Type 0} → ℕ → (X → X) → List X → List X
change_at k f [] = []
change_at zero f (x ∷ xs) = f x ∷ xs
change_at (suc k) f (x ∷ xs) = x ∷ change_at k f xs

-- a clause one level further up
abbrev pub raised : Clause → Clause
raised c = record c { level = suc c.level }

-- A clause that is gone keeps its place, cube and level.
abbrev pub retired : Clause → Clause
retired c = record c { live = false }

abbrev pub with_status : Status → Obligation → Obligation
with_status s o = record o { status = s }

abbrev pub set_status : Status → ℕ → List Obligation → List Obligation
set_status s k obligations = change_at k (with_status s) obligations

abbrev pub parent_of : List Obligation → ℕ → Option ℕ
parent_of obligations k = option_and_then (λ (o : Obligation). o.parent) (slice_get obligations k)

-- the parent, if there is one, can be worked on again
abbrev pub wake : Option ℕ → List Obligation → List Obligation
wake None obligations = obligations
wake (Some p) obligations = set_status Ready p obligations

-- an obligation is done, and its parent ready
abbrev pub finish : ℕ → List Obligation → List Obligation
finish k obligations = wake (parent_of obligations k) (set_status Done k obligations)

-- what a worker is given who takes the work, the push or the trace of this number
abbrev pub given_work : List Clause → ℕ → Obligation → Given
given_work clauses k o = Work k o.level (frame clauses (o.level - 1)) o.world

abbrev pub given_push : List Clause → ℕ → Clause → Given
given_push clauses k c = Push k c.level (cubes_from clauses c.level) c.cube

abbrev pub given_trace : ℕ → ℕ → Obligation → Given
given_trace frontier k o = Trace k (frontier - o.level)

-- What a worker who takes the job is given, as it stands; nothing where the job's clause or
-- obligation isn't there.
abbrev pub given_for : Machine → Job → Option Given
given_for m (J.Work k) = option_map (given_work m.clauses k) (slice_get m.obligations k)
given_for m J.Look =
    Some (Look m.frontier (cubes_from m.clauses m.frontier) (to_avoid m) (done_seeds m))
given_for m (J.Push k) = option_map (given_push m.clauses k) (slice_get m.clauses k)
given_for m (J.Trace k) = option_map (given_trace m.frontier k) (slice_get m.obligations k)

abbrev pub worker_of : Event → ℕ
worker_of (E.Seed w s) = w
worker_of (E.Take w j) = w
worker_of (E.Return w y) = w
worker_of (E.Learn w c) = w
worker_of (E.Before w o) = w
worker_of (E.Drop w c) = w
worker_of (E.Raise w) = w
worker_of (E.Fail w p) = w
worker_of (E.Secure w) = w
worker_of (E.Advance w) = w
worker_of (E.Close w e) = w
worker_of (E.Retire w gone by) = w

-- the job that an event is about: for a take what is given now, else what its worker holds
abbrev pub job_of_event : Machine → Event → Option Given
job_of_event m (E.Take w job) = given_for m job
job_of_event m e = held_by m.jobs (worker_of e)

-- The clauses: a cube that was learnt is a new live clause of the obligation's level; a clause
-- whose push succeeded rises; a retired one goes.
abbrev pub clauses_after : Event → Option Given → List Clause → List Clause
clauses_after (E.Learn w cube) (Some (Work k level below world)) clauses =
    clauses ++ record { cube = cube; level = level; live = true } ∷ []
clauses_after (E.Raise w) (Some (Push k level cubes cube)) clauses = change_at k raised clauses
clauses_after (E.Retire w gone by) job clauses = change_at gone retired clauses
clauses_after e job clauses = clauses

-- a step into an obligation of this level begins ready, or, from level 1, rooted in itself: it
-- starts in an initial state
abbrev pub first_status : ℕ → World → Status
first_status (suc (suc i)) p = Ready
first_status _ p = Rooted p

-- The obligations, of which a seed has the frontier's level: a seed and a step before an obligation
-- are new ones, and the obligation waits for the step; one that is taken is out, and one that is
-- put back is ready; a blocked or dropped one is done, and its parent ready; one with an initial
-- state before it is rooted.
abbrev pub obligations_after : Event → Option Given → ℕ → List Obligation → List Obligation
obligations_after (E.Seed w s) job frontier obligations =
    obligations ++ record { level = frontier; world = s; parent = None; status = Ready } ∷ []
obligations_after (E.Take w j) (Some (Work k level below world)) frontier obligations =
    set_status Out k obligations
obligations_after (E.Return w why) (Some (Work k level below world)) frontier obligations =
    set_status Ready k obligations
obligations_after (E.Learn w cube) (Some (Work k level below world)) frontier obligations =
    finish k obligations
obligations_after (E.Drop w c) (Some (Work k level below world)) frontier obligations =
    finish k obligations
obligations_after (E.Before w (O.Initial u)) (Some (Work k level below world)) n obligations =
    set_status (Rooted u) k obligations
obligations_after (E.Before w (O.Step p)) (Some (Work k level below world)) frontier obligations =
    set_status Waiting k obligations
    ++ record { level = level - 1; world = p; parent = Some k; status = first_status level p } ∷ []
obligations_after e job frontier obligations = obligations

-- the failed pushes: the step out of the frame is kept
abbrev pub failed_after : Event → Option Given → List FailedPush → List FailedPush
failed_after (E.Fail w p) (Some (Push k level cubes cube)) failed =
    failed ++ record { clause = k; level = level; step = p } ∷ []
failed_after e job failed = failed

-- the frontier, which moves on by one
abbrev pub frontier_after : Event → ℕ → ℕ
frontier_after (E.Advance w) frontier = suc frontier
frontier_after e frontier = frontier

-- the secure level, which comes to the frontier where no state of its frame violates a safety
abbrev pub secure_after : Event → ℕ → ℕ → ℕ
secure_after (E.Secure w) frontier secure = frontier
secure_after e frontier secure = secure

-- the calm: a look that found nothing further sets it, and a new frontier ends it
abbrev pub calm_after : Event → Option Given → Option ℕ → Option ℕ
calm_after (E.Return w Y.NoMore) (Some (Look level cubes avoid done)) calm = Some done
calm_after (E.Advance w) job calm = None
calm_after e job calm = calm

-- the jobs that are out but for this worker's
abbrev pub released : ℕ → List Held → List Held
released w jobs = filter (λ (h : Held). not (nat_eq h.worker w)) jobs

-- The jobs out: one that is taken comes; Advance, Retire and an end that needs no job leave them;
-- and any other event ends its worker's.
abbrev pub jobs_after : Event → Option Given → List Held → List Held
jobs_after (E.Take w j) None jobs = jobs
jobs_after (E.Take w j) (Some given) jobs = jobs ++ record { worker = w; given = given } ∷ []
jobs_after (E.Advance w) job jobs = jobs
jobs_after (E.Retire w gone by) job jobs = jobs
jobs_after (E.Close w (N.Safe i)) job jobs = jobs
jobs_after (E.Close w N.Bounded) job jobs = jobs
jobs_after (E.Close w N.Spent) job jobs = jobs
jobs_after e job jobs = released (worker_of e) jobs

-- the events that the limit on steps is about
abbrev pub is_productive : Event → Bool
is_productive (E.Take w j) = false
is_productive (E.Return w y) = false
is_productive (E.Close w e) = false
is_productive (E.Retire w gone by) = false
is_productive e = true

abbrev pub count_if : Bool → ℕ → ℕ
count_if true n = suc n
count_if false n = n

-- the end
abbrev pub ending_after : Event → Option End → Option End
ending_after (E.Close w end) ending = Some end
ending_after e ending = ending

-- the machine after an event that is about this job
abbrev pub after_event : Event → Option Given → Machine → Machine
after_event e job m = record {
  clauses = clauses_after e job m.clauses;
  frontier = frontier_after e m.frontier;
  secure = secure_after e m.frontier m.secure;
  obligations = obligations_after e job m.frontier m.obligations;
  failed = failed_after e job m.failed;
  jobs = jobs_after e job m.jobs;
  calm = calm_after e job m.calm;
  productive = count_if (is_productive e) m.productive;
  ending = ending_after e m.ending;
}

-- the machine after one event
abbrev pub happens : Machine → Event → Machine
happens m e = after_event e (job_of_event m e) m

-- the machine after some events
abbrev pub run : Machine → List Event → Machine
run m [] = m
run m (e ∷ es) = run (happens m e) es

-- the machine after a history
abbrev pub replay : List Event → Machine
replay history = run start history
