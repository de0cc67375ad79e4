-- The run that free workers make.
use Rattle.std.proofs.Common.{◌≡◌, ℕ, ◌<◌, inl, inr, List, refl, subst}
use Rattle.std.specs.List.{All}
use Rattle.fo_core.specs.declared.system.System.{System}
use Rattle.up_claims.specs.Inferring.{CanInfer}
use Rattle.up_machine.specs.declared.event.Event.{Event}
use Rattle.up_machine.specs.declared.job.Task.TheVariants as T
use Rattle.up_machine.specs.declared.limits.Limits.{Limits}
use Rattle.up_machine.specs.Due.{IsDue}
use Rattle.up_machine.specs.Legal.{Legal}
use Rattle.up_machine.specs.Machine.{Machine, start}
use Rattle.up_machine.specs.Replay.{worker_of}
use Rattle.up_machine.proofs.FrameEvents.{history_sound}
use Rattle.up_machine.proofs.Histories.{legal-first}
use Rattle.up_core.specs.declared.kept_value.Basis.{Basis}
use Rattle.up_core.specs.Shared.{basis_of}
use Rattle.up_core.specs.View.{CoreView, now}
use Rattle.up_seats.proofs.SoundHistories.{closed_sound}
use Rattle.up_visits.specs.Passes.{HasEnded}
use Rattle.up_free.specs.Crew.{EachGivesUpLast, IsFreeRun, StaysJustified}

-- who is told that the run has ended is told so after an end
has_ended : (sys : System) (limits : Limits) (m : Machine) → IsDue sys limits m T.Ended → HasEnded m
has_ended sys limits m (inl h) = h
has_ended sys limits m (inr (a, inl h)) = absurd h
has_ended sys limits m (inr (a, inr (b, inl h))) = absurd h
has_ended sys limits m (inr (a, inr (b, inr (c, inl h)))) = absurd h
has_ended sys limits m (inr (a, inr (b, inr (c, inr (d, inl h))))) = absurd h
has_ended sys limits m (inr (a, inr (b, inr (c, inr (d, inr (e, inl h)))))) = absurd h
has_ended sys limits m (inr (a, inr (b, inr (c, inr (d, inr (e, inr (f, inl h))))))) = absurd h
has_ended sys limits m (inr (a, inr (b, inr (c, inr (d, inr (e, inr (f, inr (g, inl h)))))))) = absurd h
has_ended sys limits m (inr (a, inr (b, inr (c, inr (d, inr (e, inr (f, inr (g, inr (i, h))))))))) = absurd h

justified : (sys : System) (limits : Limits) (history : List Event) → Legal sys limits history → StaysJustified sys history
justified sys limits history legal events begin =
    history_sound sys limits events (legal-first sys limits start events begin.rest (subst (Legal sys limits) begin.is legal))

module _ (c : CoreView) (workers : ℕ) (infer : CanInfer c.sys c.order) (legal : Legal c.sys c.limits c.history) (due : IsDue c.sys c.limits (now c) T.Ended) (few : workers ≡ c.limits.workers) (all : All (λ e. worker_of e < workers) c.history) (last : EachGivesUpLast 0 workers c.history) where
  own_run : IsFreeRun c.sys c.order c.limits c
  own_run =
      let ended = has_ended c.sys c.limits (now c) due in
      record {
        sys_is = refl;
        order_is = refl;
        limits_are = refl;
        sound = closed_sound c.sys c.limits c.history ended.0 infer.system legal ended.1;
        justified = justified c.sys c.limits c.history legal;
        workers = subst (λ n. All (λ e. worker_of e < n) c.history) few all;
        last = subst (λ n. EachGivesUpLast 0 n c.history) few last;
      }

  pub free_run : (b : Basis) → basis_of c ≡ b → IsFreeRun b.sys b.order b.limits c
  free_run b is = subst (λ (x : Basis). IsFreeRun x.sys x.order x.limits c) is own_run
