-- A seat that asks for a job, and whether it gets one.
use Rattle.std.proofs.Common.{◌≡◌, ℕ, ◌<◌, [], ◌∷◌, refl, sym, subst}
use Rattle.up_machine.specs.declared.brief.Brief.{Brief}
use Rattle.up_machine.specs.declared.event.Event.TheVariants as E
use Rattle.up_machine.specs.declared.job.Job.{Job}
use Rattle.up_machine.specs.declared.job.Task.{Task}
use Rattle.up_machine.specs.declared.job.Task.TheVariants as T
use Rattle.up_machine.specs.Due.{IsDue}
use Rattle.up_machine.specs.Legal.{MayTake}
use Rattle.up_machine.proofs.OneDue.{due_one}
use Rattle.up_core.specs.View.{CoreView, now, with_event}
use Rattle.up_seats.specs.Seats.{IsBriefed}
use Rattle.up_rounds.specs.Taking.{HasTakenNone, HasTakenOne, IsFreeFor}
use Rattle.up_seats.proofs.Made.{IsRoomier, made_room, made_event, made_after}

-- of a seat that asks, once there is room
module _ (a b : CoreView) (seat : ℕ) (room : IsRoomier a b) where
  -- no job is due
  no_job : ((job : Job) → ¬ IsDue b.sys b.limits (now b) (T.Job job)) → HasTakenNone a seat b
  no_job none = record {
    made = made_room a b room;
    none = λ e t. none t.job (subst (λ (x : CoreView). IsDue x.sys x.limits (now x) (T.Job t.job)) (sym room) t.due);
  }

  pub takes_none : (t : Task) → IsDue b.sys b.limits (now b) t → ((job : Job) → ¬ (t ≡ T.Job job)) → HasTakenNone a seat b
  takes_none t due other = no_job (λ job job_due. other job (due_one b.sys b.limits (now b) t (T.Job job) due job_due))

  pub may_take : (job : Job) → IsFreeFor a seat → IsDue b.sys b.limits (now b) (T.Job job) → MayTake b.sys b.limits (now b) seat job
  may_take job free due =
      let due_before : IsDue a.sys a.limits (now a) (T.Job job) = subst (λ (x : CoreView). IsDue x.sys x.limits (now x) (T.Job job)) room due in
      subst (λ (x : CoreView). MayTake x.sys x.limits (now x) seat job) (sym room) (record { free = free job due_before; due = due_before })

  pub takes_one : (d : CoreView) (job : Job) (brief : Brief) → seat < a.limits.batch → IsDue b.sys b.limits (now b) (T.Job job) → d ≡ with_event b (E.Take seat job) → IsBriefed d seat brief → HasTakenOne a seat brief d
  takes_one d job brief in_batch due made briefed = record {
    take = E.Take seat job;
    made = made_after a b d (E.Take seat job ∷ []) (made_room a b room) (made_event b d (E.Take seat job) made);
    taken = record {
      job = job;
      in_batch = in_batch;
      due = subst (λ (x : CoreView). IsDue x.sys x.limits (now x) (T.Job job)) room due;
      is = refl;
    };
    briefed = briefed;
  }
