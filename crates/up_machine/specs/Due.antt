-- What is due: the task of a worker who asks. Nine rules are tried in order, and the first that
-- applies gives the task.
use Rattle.std.specs.Prelude.{◌≡◌, ℕ, true, ◌<◌, ◌≤◌, List, [], length, Some, slice_get, ◌⊎◌, ⊤}
use Rattle.std.specs.List.{All, Any}
use Rattle.fo_core.specs.declared.system.System.{System}
use Rattle.up_machine.specs.declared.end.End.{End}
use Rattle.up_machine.specs.declared.job.Job.{Job}
use Rattle.up_machine.specs.declared.job.Job.TheVariants as J
use Rattle.up_machine.specs.declared.job.Short.TheVariants as S
use Rattle.up_machine.specs.declared.job.Task.{Task}
use Rattle.up_machine.specs.declared.job.Task.TheVariants as T
use Rattle.up_machine.specs.declared.limits.Limits.{Limits}
use Rattle.up_machine.specs.declared.limits.TheConstants.{MOST_SEEDS}
use Rattle.up_machine.specs.Machine.{Clause, Status, Ready, Done, Rooted, Obligation, FailedPush, Given, Work, Look, Push, Trace, Held, Machine, IsIn, done_seeds, unfinished_seeds}

-- the place k has something with the property, and no place before it has
pub record IsFirst {X : Type 0} (xs : List X) (P : ℕ → X → Type 0) (k : ℕ) : Type 0 where
  pub found : X
  pub there : slice_get xs k ≡ Some found
  pub has : P k found
  pub first : (j : ℕ) (x : X) → j < k → slice_get xs j ≡ Some x → ¬ P j x

-- no live clause has exactly this level
abbrev pub HasNone : Machine → ℕ → Type 0
HasNone m i = All (λ (c : Clause). c.live ≡ true → ¬ (c.level ≡ i)) m.clauses

-- The least level up to the secure one that no live clause has: the frames i and i + 1 have the
-- same clauses, so they are a fixed point.
pub record IsClosedLevel (m : Machine) (i : ℕ) : Type 0 where
  pub low : 1 ≤ i
  pub high : i ≤ m.secure
  pub none : HasNone m i
  pub least : (j : ℕ) → 1 ≤ j → j < i → ¬ HasNone m j

abbrev pub IsRooted : Status → Type 0
IsRooted (Rooted u) = ⊤
IsRooted _ = ⊥

-- the first obligation with an initial state before it
abbrev pub IsFirstRooted : Machine → ℕ → Type 0
IsFirstRooted m k = IsFirst m.obligations (λ j o. IsRooted o.status) k

-- the job by its name
abbrev pub job_of : Given → Job
job_of (Work k level below world) = J.Work k
job_of (Look level cubes avoid done) = J.Look
job_of (Push k level cubes cube) = J.Push k
job_of (Trace k steps) = J.Trace k

abbrev pub IsTrace : Job → Type 0
IsTrace (J.Trace k) = ⊤
IsTrace _ = ⊥

-- some worker has the job
abbrev pub IsOut : Machine → Job → Type 0
IsOut m job = Any (λ (h : Held). job_of h.given ≡ job) m.jobs

abbrev pub TraceIsOut : Machine → Type 0
TraceIsOut m = Any (λ (h : Held). IsTrace (job_of h.given)) m.jobs

-- of the ready obligations one of least level, and of these the first
pub record IsNextWork (m : Machine) (k : ℕ) : Type 0 where
  pub obligation : Obligation
  pub there : slice_get m.obligations k ≡ Some obligation
  pub ready : obligation.status ≡ Ready
  pub next : (j : ℕ) (o : Obligation) → slice_get m.obligations j ≡ Some o → o.status ≡ Ready →
      (obligation.level < o.level) ⊎ (obligation.level ≡ o.level) × (k ≤ j)

-- The frontier isn't secure, no worker looks, a further seed was done since a look found nothing
-- further, and few seeds are unfinished.
pub record IsLookDue (m : Machine) : Type 0 where
  pub insecure : m.secure < m.frontier
  pub free : ¬ IsOut m J.Look
  pub stirred : ¬ (m.calm ≡ Some (done_seeds m))
  pub few : length (unfinished_seeds m) < MOST_SEEDS

-- A failed push is valid where its clause, of number k, is live and has the level that it had, and
-- the step still leads out of the frame.
pub record IsValid (sys : System) (m : Machine) (k : ℕ) (c : Clause) (f : FailedPush) : Type 0 where
  pub live : c.live ≡ true
  pub clause : f.clause ≡ k
  pub level : f.level ≡ c.level
  pub inside : IsIn sys m f.level f.step 0

-- a live clause up to the frontier that no worker pushes, and for which no valid failed push shows
-- that it can't rise
pub record IsToPush (sys : System) (m : Machine) (k : ℕ) (c : Clause) : Type 0 where
  pub live : c.live ≡ true
  pub low : 1 ≤ c.level
  pub high : c.level ≤ m.frontier
  pub untried : ¬ Any (IsValid sys m k c) m.failed
  pub free : ¬ IsOut m (J.Push k)

-- the frontier is secure, and nothing is left to do
pub record IsQuiet (m : Machine) : Type 0 where
  pub secure : m.secure ≡ m.frontier
  pub finished : All (λ (o : Obligation). o.status ≡ Done) m.obligations
  pub no_job : m.jobs ≡ []

-- what the first rule allows, and what the others allow where it allows nothing
abbrev pub Else : {X : Type 0} → (X → Type 0) → (X → Type 0) → X → Type 0
Else {X} rule others x = rule x ⊎ ((y : X) → ¬ rule y) × others x

module _ (sys : System) (limits : Limits) (m : Machine) where
  -- 1. after the end there is nothing to do
  abbrev pub by_end : Task → Type 0
  by_end T.Ended = (e : End) × (m.ending ≡ Some e)
  by_end _ = ⊥

  -- 2. frames that are a fixed point end the run
  abbrev pub by_closed_level : Task → Type 0
  by_closed_level (T.Finish (S.Safe i)) = IsClosedLevel m i
  by_closed_level _ = ⊥

  -- 3. a chain from a violating state back to an initial one is traced, by one worker
  abbrev pub by_root : Task → Type 0
  by_root (T.Job (J.Trace k)) = IsFirstRooted m k × ¬ TraceIsOut m
  by_root T.Idle = (k : ℕ) × IsFirstRooted m k × TraceIsOut m
  by_root _ = ⊥

  -- 4. a run that has spent its steps ends
  abbrev pub by_steps : Task → Type 0
  by_steps (T.Finish S.Spent) = limits.steps ≤ m.productive
  by_steps _ = ⊥

  -- 5. obligations are worked on, those of least level first
  abbrev pub by_obligation : Task → Type 0
  by_obligation (T.Job (J.Work k)) = IsNextWork m k
  by_obligation _ = ⊥

  -- 6. violating states of the frontier's frame are looked for
  abbrev pub by_frontier : Task → Type 0
  by_frontier (T.Job J.Look) = IsLookDue m
  by_frontier _ = ⊥

  -- 7. clauses are pushed, the first one first
  abbrev pub by_clause : Task → Type 0
  by_clause (T.Job (J.Push k)) = IsFirst m.clauses (IsToPush sys m) k
  by_clause _ = ⊥

  -- 8. where all is done the frontier moves on, up to the limit
  abbrev pub by_quiet : Task → Type 0
  by_quiet T.Advance = IsQuiet m × (m.frontier < limits.frames)
  by_quiet (T.Finish S.Bounded) = IsQuiet m × (limits.frames ≤ m.frontier)
  by_quiet _ = ⊥

  -- 9. else the worker waits for the jobs that are out
  abbrev pub by_default : Task → Type 0
  by_default T.Idle = ⊤
  by_default _ = ⊥

  -- the first of the rules that applies gives the task
  abbrev pub IsDue : Task → Type 0
  IsDue =
      Else by_end
      (Else by_closed_level
      (Else by_root
      (Else by_steps
      (Else by_obligation
      (Else by_frontier
      (Else by_clause
      (Else by_quiet by_default)))))))
