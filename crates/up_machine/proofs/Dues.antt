-- What is due tells which rule gave it.
use Rattle.std.proofs.Common.{ℕ, ◌≤◌, inl, inr}
use Rattle.fo_core.specs.declared.system.System.{System}
use Rattle.up_machine.specs.declared.limits.Limits.{Limits}
use Rattle.up_machine.specs.declared.job.Job.TheVariants as J
use Rattle.up_machine.specs.declared.job.Short.TheVariants as S
use Rattle.up_machine.specs.declared.job.Task.{Task}
use Rattle.up_machine.specs.declared.job.Task.TheVariants as T
use Rattle.up_machine.specs.Machine.{Machine}
use Rattle.up_machine.specs.Due.{IsClosedLevel, IsFirst, IsFirstRooted, IsNextWork, IsToPush, IsQuiet, Else, by_end, by_closed_level, by_root, by_steps, by_obligation, by_frontier, by_clause, by_quiet, by_default, IsDue}

module _ (sys : System) (limits : Limits) (m : Machine) where
  passed : (rule others : Task → Type 0) (t : Task) → ¬ rule t → Else rule others t → others t
  passed rule others t fails (inl h) = absurd (fails h)
  passed rule others t fails (inr h) = h.1

  chosen : (rule others : Task → Type 0) (t : Task) → ¬ others t → Else rule others t → rule t
  chosen rule others t fails (inl h) = h
  chosen rule others t fails (inr h) = absurd (fails h.1)

  never : ⊥ → ⊥
  never h = h

  abbrev from_quiet : Task → Type 0
  from_quiet = Else (by_quiet sys limits m) (by_default sys limits m)

  abbrev from_clause : Task → Type 0
  from_clause = Else (by_clause sys limits m) from_quiet

  abbrev from_frontier : Task → Type 0
  from_frontier = Else (by_frontier sys limits m) from_clause

  abbrev from_obligation : Task → Type 0
  from_obligation = Else (by_obligation sys limits m) from_frontier

  abbrev from_steps : Task → Type 0
  from_steps = Else (by_steps sys limits m) from_obligation

  abbrev from_root : Task → Type 0
  from_root = Else (by_root sys limits m) from_steps

  abbrev from_closed : Task → Type 0
  from_closed = Else (by_closed_level sys limits m) from_root

  after_end : (t : Task) → ¬ by_end sys limits m t → IsDue sys limits m t → from_closed t
  after_end t n h = passed (by_end sys limits m) from_closed t n h

  after_closed : (t : Task) → ¬ by_closed_level sys limits m t → from_closed t → from_root t
  after_closed t n h = passed (by_closed_level sys limits m) from_root t n h

  after_root : (t : Task) → ¬ by_root sys limits m t → from_root t → from_steps t
  after_root t n h = passed (by_root sys limits m) from_steps t n h

  after_steps : (t : Task) → ¬ by_steps sys limits m t → from_steps t → from_obligation t
  after_steps t n h = passed (by_steps sys limits m) from_obligation t n h

  after_obligation : (t : Task) → ¬ by_obligation sys limits m t → from_obligation t → from_frontier t
  after_obligation t n h = passed (by_obligation sys limits m) from_frontier t n h

  after_frontier : (t : Task) → ¬ by_frontier sys limits m t → from_frontier t → from_clause t
  after_frontier t n h = passed (by_frontier sys limits m) from_clause t n h

  after_clause : (t : Task) → ¬ by_clause sys limits m t → from_clause t → from_quiet t
  after_clause t n h = passed (by_clause sys limits m) from_quiet t n h

  after_quiet : (t : Task) → ¬ by_quiet sys limits m t → from_quiet t → by_default sys limits m t
  after_quiet t n h = passed (by_quiet sys limits m) (by_default sys limits m) t n h

  pub due_work : (k : ℕ) → IsDue sys limits m (T.Job (J.Work k)) → IsNextWork m k
  due_work k h =
      let t = T.Job (J.Work k) in
      chosen (by_obligation sys limits m) from_frontier t (λ r. after_quiet t never (after_clause t never (after_frontier t never r)))
      (after_steps t never (after_root t never (after_closed t never (after_end t never h))))

  pub due_push : (k : ℕ) → IsDue sys limits m (T.Job (J.Push k)) → IsFirst m.clauses (IsToPush sys m) k
  due_push k h =
      let t = T.Job (J.Push k) in
      chosen (by_clause sys limits m) from_quiet t (after_quiet t never)
      (after_frontier t never (after_obligation t never (after_steps t never (after_root t never (after_closed t never (after_end t never h))))))

  pub due_trace : (k : ℕ) → IsDue sys limits m (T.Job (J.Trace k)) → IsFirstRooted m k
  due_trace k h =
      let t = T.Job (J.Trace k) in
      (chosen (by_root sys limits m) from_steps t (λ r. after_quiet t never (after_clause t never (after_frontier t never (after_obligation t never (after_steps t never r)))))
      (after_closed t never (after_end t never h))).0

  pub due_advance : IsDue sys limits m T.Advance → IsQuiet m
  due_advance h =
      let t = T.Advance in
      (chosen (by_quiet sys limits m) (by_default sys limits m) t never
      (after_clause t never (after_frontier t never (after_obligation t never (after_steps t never (after_root t never (after_closed t never (after_end t never h)))))))).0

  pub due_closed : (i : ℕ) → IsDue sys limits m (T.Finish (S.Safe i)) → IsClosedLevel m i
  due_closed i h =
      let t = T.Finish (S.Safe i) in
      chosen (by_closed_level sys limits m) from_root t (λ r. after_quiet t never (after_clause t never (after_frontier t never (after_obligation t never (after_steps t never (after_root t never r))))))
      (after_end t never h)

  pub due_bounded : IsDue sys limits m (T.Finish S.Bounded) → IsQuiet m × (limits.frames ≤ m.frontier)
  due_bounded h =
      let t = T.Finish S.Bounded in
      chosen (by_quiet sys limits m) (by_default sys limits m) t never
      (after_clause t never (after_frontier t never (after_obligation t never (after_steps t never (after_root t never (after_closed t never (after_end t never h)))))))
