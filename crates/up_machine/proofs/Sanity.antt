-- Some history is legal: the first worker takes the look.
use Rattle.std.proofs.Common.{◌≤◌, inl, inr, [], ◌∷◌, refl, sym, true≢false, arith}
use Rattle.fo_core.specs.declared.system.System.{System}
use Rattle.up_machine.specs.declared.limits.Limits.{Limits}
use Rattle.up_machine.specs.declared.job.Job.TheVariants as J
use Rattle.up_machine.specs.declared.job.Short.TheVariants as S
use Rattle.up_machine.specs.declared.job.Task.{Task}
use Rattle.up_machine.specs.declared.job.Task.TheVariants as T
use Rattle.up_machine.specs.declared.event.Event.TheVariants as E
use Rattle.up_machine.specs.Machine.{start}
use Rattle.up_machine.specs.Due.{by_end, by_closed_level, by_root, by_steps, by_obligation, IsDue}
use Rattle.up_machine.specs.Legal.{Legal}
use Rattle.up_machine.proofs.Lists.{none_is_some}

module _ (sys : System) (limits : Limits) (some : 1 ≤ limits.steps) where
  no_end : (u : Task) → ¬ by_end sys limits start u
  no_end T.Ended h = none_is_some h.0 h.1
  no_end u h = h

  no_closed : (u : Task) → ¬ by_closed_level sys limits start u
  no_closed (T.Finish (S.Safe i)) h = omega (arith, h.low, h.high)
  no_closed u h = h

  no_root : (u : Task) → ¬ by_root sys limits start u
  no_root (T.Job (J.Trace k)) h = none_is_some h.0.found h.0.there
  no_root T.Idle h = none_is_some h.1.found h.1.there
  no_root u h = h

  no_steps : (u : Task) → ¬ by_steps sys limits start u
  no_steps (T.Finish S.Spent) h = omega (arith, some, h)
  no_steps u h = h

  no_work : (u : Task) → ¬ by_obligation sys limits start u
  no_work (T.Job (J.Work k)) h = none_is_some h.obligation h.there
  no_work u h = h

  look_due : IsDue sys limits start (T.Job J.Look)
  look_due =
      inr (
        no_end,
        inr (
          no_closed,
          inr (
            no_root,
            inr (
              no_steps,
              inr (
                no_work,
                inl (record {
                  insecure = omega arith;
                  free = λ a. omega (arith, a.2);
                  stirred = λ e. none_is_some _ e;
                  few = omega arith;
                }),
              ),
            ),
          ),
        ),
      )

  pub first_take : Legal sys limits (E.Take 0 J.Look ∷ [])
  first_take = (
    record { not_ended = refl; affordable = λ e. absurd (true≢false (sym e)); allowed = record { free = refl; due = look_due } },
    tt,
  )
