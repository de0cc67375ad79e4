-- At most one task is due.
use Rattle.std.proofs.Common.{◌≡◌, ℕ, ◌<◌, ◌≤◌, ◌⊎◌, inl, inr, List, refl, sym, ap, ◌∙◌, arith}
use Rattle.std.proofs.lemmas.Bool.{cases_lt}
use Rattle.fo_core.specs.declared.system.System.{System}
use Rattle.up_machine.specs.declared.limits.Limits.{Limits}
use Rattle.up_machine.specs.declared.job.Job.TheVariants as J
use Rattle.up_machine.specs.declared.job.Short.TheVariants as S
use Rattle.up_machine.specs.declared.job.Task.{Task}
use Rattle.up_machine.specs.declared.job.Task.TheVariants as T
use Rattle.up_machine.specs.Machine.{Machine}
use Rattle.up_machine.specs.Due.{IsClosedLevel, IsFirst, IsFirstRooted, TraceIsOut, IsNextWork, IsToPush, Else, by_end, by_closed_level, by_root, by_steps, by_obligation, by_frontier, by_clause, by_quiet, by_default, IsDue}

-- numbers of which neither is below the other
pub neither_below : (i j : ℕ) → ¬ (i < j) → ¬ (j < i) → i ≡ j
neither_below i j a b = by (cases_lt i j) (cases_lt j i)
  where
    by : (i < j) ⊎ (j ≤ i) → (j < i) ⊎ (i ≤ j) → i ≡ j
    by (inl h) k = absurd (a h)
    by (inr h) (inl k) = absurd (b k)
    by (inr h) (inr k) = omega arith

first_same : {X : Type 0} (xs : List X) (P : ℕ → X → Type 0) (i j : ℕ) → IsFirst xs P i → IsFirst xs P j → i ≡ j
first_same xs P i j a b = neither_below i j (λ lt. b.first i a.found lt a.there a.has) (λ lt. a.first j b.found lt b.there b.has)

-- at most one thing has the property
abbrev pub IsOne : {X : Type 0} → (X → Type 0) → Type 0
IsOne {X} rule = (x y : X) → rule x → rule y → x ≡ y

pub else_one : {X : Type 0} (rule others : X → Type 0) → IsOne rule → IsOne others → IsOne (Else rule others)
else_one rule others a b x y (inl h) (inl k) = a x y h k
else_one rule others a b x y (inl h) (inr k) = absurd (k.0 x h)
else_one rule others a b x y (inr h) (inl k) = absurd (h.0 y k)
else_one rule others a b x y (inr h) (inr k) = b x y h.1 k.1

module _ (sys : System) (limits : Limits) (m : Machine) where
  closed_same : (i j : ℕ) → IsClosedLevel m i → IsClosedLevel m j → i ≡ j
  closed_same i j a b = neither_below i j (λ lt. b.least i a.low lt a.none) (λ lt. a.least j b.low lt b.none)

  work_same : (i j : ℕ) → IsNextWork m i → IsNextWork m j → i ≡ j
  work_same i j a b = by (a.next j b.obligation b.there b.ready) (b.next i a.obligation a.there a.ready)
    where
      by : (a.obligation.level < b.obligation.level) ⊎ (a.obligation.level ≡ b.obligation.level) × (i ≤ j) → (b.obligation.level < a.obligation.level) ⊎ (b.obligation.level ≡ a.obligation.level) × (j ≤ i) → i ≡ j
      by (inl x) (inl y) = absurd (omega (arith, x, y))
      by (inl x) (inr y) = absurd (omega (arith, x, y.0))
      by (inr x) (inl y) = absurd (omega (arith, x.0, y))
      by (inr x) (inr y) = omega (arith, x.1, y.1)

  end_is : (t : Task) → by_end sys limits m t → t ≡ T.Ended
  end_is T.Ended h = refl
  end_is t h = absurd h

  closed_is : (t : Task) → by_closed_level sys limits m t → (i : ℕ) × (t ≡ T.Finish (S.Safe i)) × IsClosedLevel m i
  closed_is (T.Finish (S.Safe i)) h = (i, refl, h)
  closed_is t h = absurd h

  abbrev IsByRoot : Task → Type 0
  IsByRoot t = ((k : ℕ) × (t ≡ T.Job (J.Trace k)) × IsFirstRooted m k × (¬ TraceIsOut m)) ⊎ (t ≡ T.Idle) × TraceIsOut m

  root_is : (t : Task) → by_root sys limits m t → IsByRoot t
  root_is (T.Job (J.Trace k)) h = inl (k, refl, h.0, h.1)
  root_is T.Idle h = inr (refl, h.2)
  root_is t h = absurd h

  steps_is : (t : Task) → by_steps sys limits m t → t ≡ T.Finish S.Spent
  steps_is (T.Finish S.Spent) h = refl
  steps_is t h = absurd h

  work_is : (t : Task) → by_obligation sys limits m t → (k : ℕ) × (t ≡ T.Job (J.Work k)) × IsNextWork m k
  work_is (T.Job (J.Work k)) h = (k, refl, h)
  work_is t h = absurd h

  look_is : (t : Task) → by_frontier sys limits m t → t ≡ T.Job J.Look
  look_is (T.Job J.Look) h = refl
  look_is t h = absurd h

  push_is : (t : Task) → by_clause sys limits m t → (k : ℕ) × (t ≡ T.Job (J.Push k)) × IsFirst m.clauses (IsToPush sys m) k
  push_is (T.Job (J.Push k)) h = (k, refl, h)
  push_is t h = absurd h

  abbrev IsByQuiet : Task → Type 0
  IsByQuiet t = (t ≡ T.Advance) × (m.frontier < limits.frames) ⊎ (t ≡ T.Finish S.Bounded) × (limits.frames ≤ m.frontier)

  quiet_is : (t : Task) → by_quiet sys limits m t → IsByQuiet t
  quiet_is T.Advance h = inl (refl, h.1)
  quiet_is (T.Finish S.Bounded) h = inr (refl, h.1)
  quiet_is t h = absurd h

  default_is : (t : Task) → by_default sys limits m t → t ≡ T.Idle
  default_is T.Idle h = refl
  default_is t h = absurd h

  root_one : IsOne (by_root sys limits m)
  root_one t u h k = by (root_is t h) (root_is u k)
    where
      by : IsByRoot t → IsByRoot u → t ≡ u
      by (inl a) (inl b) = a.1 ∙ ap (λ k. T.Job (J.Trace k)) (first_same m.obligations _ a.0 b.0 a.2 b.2) ∙ sym b.1
      by (inl a) (inr b) = absurd (a.3 b.1)
      by (inr a) (inl b) = absurd (b.3 a.1)
      by (inr a) (inr b) = a.0 ∙ sym b.0

  quiet_one : IsOne (by_quiet sys limits m)
  quiet_one t u h k = by (quiet_is t h) (quiet_is u k)
    where
      by : IsByQuiet t → IsByQuiet u → t ≡ u
      by (inl a) (inl b) = a.0 ∙ sym b.0
      by (inl a) (inr b) = absurd (omega (arith, a.1, b.1))
      by (inr a) (inl b) = absurd (omega (arith, a.1, b.1))
      by (inr a) (inr b) = a.0 ∙ sym b.0

  pub due_one : (t u : Task) → IsDue sys limits m t → IsDue sys limits m u → t ≡ u
  due_one =
      else_one _ _ (λ t u h k. end_is t h ∙ sym (end_is u k))
      (else_one _ _ (λ t u h k. let a = closed_is t h in let b = closed_is u k in a.1 ∙ ap (λ i. T.Finish (S.Safe i)) (closed_same a.0 b.0 a.2 b.2) ∙ sym b.1)
      (else_one _ _ root_one
      (else_one _ _ (λ t u h k. steps_is t h ∙ sym (steps_is u k))
      (else_one _ _ (λ t u h k. let a = work_is t h in let b = work_is u k in a.1 ∙ ap (λ i. T.Job (J.Work i)) (work_same a.0 b.0 a.2 b.2) ∙ sym b.1)
      (else_one _ _ (λ t u h k. look_is t h ∙ sym (look_is u k))
      (else_one _ _ (λ t u h k. let a = push_is t h in let b = push_is u k in a.1 ∙ ap (λ i. T.Job (J.Push i)) (first_same m.clauses _ a.0 b.0 a.2 b.2) ∙ sym b.1)
      (else_one _ _ quiet_one (λ t u h k. default_is t h ∙ sym (default_is u k)))))))))
