-- What is due to seat 0 at the begin of a round.
use Rattle.std.proofs.Common.{◌≡◌, ℕ, Bool, true, false, inl, inr, [], ◌∷◌, Option, None, Some, refl, sym, subst, arith}
use Rattle.std.specs.Prelude.{MatchOption}
use Rattle.fo_core.specs.declared.system.System.{System}
use Rattle.up_machine.specs.declared.limits.Limits.{Limits}
use Rattle.up_machine.specs.declared.event.Event.{Event}
use Rattle.up_machine.specs.declared.event.Event.TheVariants as E
use Rattle.up_machine.specs.declared.job.Job.{Job}
use Rattle.up_machine.specs.declared.job.Short.{Short}
use Rattle.up_machine.specs.declared.job.Task.{Task}
use Rattle.up_machine.specs.declared.job.Task.TheVariants as T
use Rattle.up_machine.specs.Due.{IsDue}
use Rattle.up_machine.specs.Legal.{Legal}
use Rattle.up_machine.specs.Machine.{Machine}
use Rattle.up_machine.specs.Rounds.{end_of, IsFirstCover, Settles, Retires}
use Rattle.up_machine.specs.declared.not_now.Cover.{Cover}
use Rattle.up_machine.proofs.Lists.{none_is_some}
use Rattle.up_machine.proofs.OneDue.{due_one}
use Rattle.up_core.specs.View.{CoreView, MayRetire, now, with_event}
use Rattle.up_core.proofs.NextCores.{due-open}
use Rattle.up_seats.specs.Making.{HasMade}
use Rattle.up_rounds.specs.Settling.{HasRetired, HasSettled, IsForJobs, IsResting}
use Rattle.up_seats.proofs.Made.{IsRoomier, made_room, made_event, made_after}
use Rattle.up_rounds.proofs.OneCourse.{differ_kind}
use Rattle.up_rounds.proofs.Resting.{nobody_waits}

module _ (sys : System) (limits : Limits) (m : Machine) where
  pub job_open : (job : Job) → IsDue sys limits m (T.Job job) → m.ending ≡ None
  job_open job due = due-open sys limits m (T.Job job) (λ e. differ_kind (T.Job job) T.Ended e (λ x. omega (arith, x))) due

  -- where a job is due nothing is settled
  job_unsettled : (job : Job) → IsDue sys limits m (T.Job job) → (e : Event) → ¬ Settles sys limits m e
  job_unsettled job due e (inl a) = differ_kind _ _ (due_one sys limits m T.Advance (T.Job job) a.0 due) (λ x. omega (arith, x))
  job_unsettled job due e (inr a) = differ_kind _ _ (due_one sys limits m (T.Finish a.0) (T.Job job) a.1 due) (λ x. omega (arith, x))

  none_retires : ((gone by : ℕ) → ¬ MayRetire m gone by) → (e : Event) → ¬ Retires sys limits m e
  none_retires none e a = none a.0 a.1 (a.2.not_ended, a.2.cover)

-- of the machine in code, once there is room
module _ (a b : CoreView) (room : IsRoomier a b) where
  due_before : (t : Task) → IsDue b.sys b.limits (now b) t → IsDue a.sys a.limits (now a) t
  due_before t due = subst (λ (x : CoreView). IsDue x.sys x.limits (now x) t) room due

  -- seat 0 settles
  settled : (d : CoreView) (e : Event) → d ≡ with_event b e → Settles a.sys a.limits (now a) e → HasSettled a d
  settled d e made is = record {
    event = e;
    made = made_after a b d (e ∷ []) (made_room a b room) (made_event b d e made);
    is = inl is;
  }

  pub finished : (d : CoreView) (short : Short) → IsDue b.sys b.limits (now b) (T.Finish short) → d ≡ with_event b (E.Close 0 (end_of short)) → HasSettled a d
  finished d short due made = settled d (E.Close 0 (end_of short)) made (inr (short, due_before (T.Finish short) due, refl))

  -- where a job is due it retires, if it can
  module _ (job : Job) (due : IsDue b.sys b.limits (now b) (T.Job job)) where
    pub open_for_job : (now b).ending ≡ None
    open_for_job = job_open b.sys b.limits (now b) job due

    by_retiring : (d : CoreView) → HasRetired b true d → HasSettled a d
    by_retiring d h = record {
      event = h.0;
      made = made_after a b d (h.0 ∷ []) (made_room a b room) h.1;
      is = inr (
        job_unsettled a.sys a.limits (now a) job (due_before (T.Job job) due),
        subst (λ (x : CoreView). Retires x.sys x.limits (now x) h.0) room h.2,
      );
    }

    by_none : (d : CoreView) → HasRetired b false d → HasMade a [] d × IsForJobs d
    by_none d h =
        let same : d ≡ b = h.0 in
        subst (λ (x : CoreView). HasMade a [] x × IsForJobs x) (sym same) (
          made_room a b room,
          record { not_settled = job_unsettled b.sys b.limits (now b) job due; not_retired = h.1; job = job; due = due },
        )

    pub retired : (d : CoreView) (found : Bool) → found ≡ true → HasRetired b found d → HasSettled a d
    retired d found is h = by_retiring d (subst (λ x. HasRetired b x d) is h)

    pub for_jobs : (d : CoreView) (found : Bool) → found ≡ false → HasRetired b found d → HasMade a [] d × IsForJobs d
    for_jobs d found is h = by_none d (subst (λ x. HasRetired b x d) is h)

  -- and nobody waits
  pub nobody_idle : IsResting a → Legal b.sys b.limits b.history → ¬ IsDue b.sys b.limits (now b) T.Idle
  nobody_idle rest legal due =
      let here = due_before T.Idle due in
      let open_now = due-open a.sys a.limits (now a) T.Idle (λ e. differ_kind T.Idle T.Ended e (λ x. omega (arith, x))) here in
      nobody_waits a.sys a.limits a.history (subst (λ (x : CoreView). Legal x.sys x.limits x.history) room legal) (rest open_now) here

pub retires_none : (b : CoreView) (found : Option Cover) → found ≡ None →
    MatchOption found ((gone by : ℕ) → ¬ MayRetire (now b) gone by) (λ x. IsFirstCover (now b) x.gone x.by) → HasRetired b false b
retires_none b None is none = (refl, none_retires b.sys b.limits (now b) none)
retires_none b (Some x) is h = none_is_some x (sym is)
