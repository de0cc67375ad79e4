-- The first event of rounds.
use Rattle.std.proofs.Common.{◌≡◌, inl, inr, List, [], ◌∷◌, ap, ◌∙◌, arith}
use Rattle.fo_core.specs.declared.system.System.{System}
use Rattle.up_machine.specs.declared.limits.Limits.{Limits}
use Rattle.up_machine.specs.declared.job.Job.TheVariants as J
use Rattle.up_machine.specs.declared.job.Task.TheVariants as T
use Rattle.up_machine.specs.declared.event.Event.{Event}
use Rattle.up_machine.specs.declared.event.Event.TheVariants as E
use Rattle.up_machine.specs.Machine.{start}
use Rattle.up_machine.specs.Due.{IsDue}
use Rattle.up_machine.specs.Ranges.{AreInRange}
use Rattle.up_machine.specs.Rounds.{Begins, Rounds}
use Rattle.up_machine.proofs.Lists.{none_is_some}
use Rattle.up_machine.proofs.OneDue.{due_one}
use Rattle.up_machine.proofs.Sanity.{first_take}
use Rattle.up_rounds.proofs.OneCourse.{differ_kind, job_same}

module _ (sys : System) (limits : Limits) (ranges : AreInRange limits) where
  look_due : IsDue sys limits start (T.Job J.Look)
  look_due = (first_take sys limits ranges.steps.low).0.allowed.due

  first_is : (e : Event) → Begins sys limits start e → e ≡ E.Take 0 J.Look
  first_is e (inl (inl a)) = differ_kind _ _ (due_one sys limits start T.Advance (T.Job J.Look) a.0 look_due) (λ x. omega (arith, x))
  first_is e (inl (inr a)) = differ_kind _ _ (due_one sys limits start (T.Finish a.0) (T.Job J.Look) a.1 look_due) (λ x. omega (arith, x))
  first_is e (inr (n, inl a)) = none_is_some a.2.cover.old a.2.cover.there
  first_is e (inr (n, inr (k, a))) =
      a.is ∙ ap (λ j. E.Take 0 j) (job_same a.job J.Look (due_one sys limits start (T.Job a.job) (T.Job J.Look) a.due look_due))

pub first_look : (sys : System) (limits : Limits) (history : List Event) → AreInRange limits → Rounds sys limits history → (rest : List Event) × (history ≡ E.Take 0 J.Look ∷ rest)
first_look sys limits [] ranges h = absurd h
first_look sys limits (e ∷ es) ranges h = (es, ap (λ x. x ∷ es) (first_is sys limits ranges e h.0))
