-- What one worker's event leaves to the others, and that it ends the worker's own job.
use Rattle.std.proofs.Common.{◌≡◌, ◌≢◌, ℕ, Bool, true, false, cond, not, nat_eq, List, [], ◌∷◌, find, None, Some, Result, Ok, refl, sym, ap, subst, ◌∙◌}
use Rattle.std.specs.Prelude.{option_map}
use Rattle.std.specs.Result.{OnOk}
use Rattle.fo_core.specs.declared.system.System.{System}
use Rattle.up_machine.specs.declared.brief.Brief.{Brief}
use Rattle.up_machine.specs.declared.event.Event.{Event}
use Rattle.up_machine.specs.declared.limits.Limits.{Limits}
use Rattle.up_machine.specs.Machine.{Held, Machine, held_by}
use Rattle.up_machine.specs.Replay.{worker_of, job_of_event, jobs_after, released}
use Rattle.up_machine.proofs.Histories.{replay-push}
use Rattle.up_machine.proofs.Holding.{stays-held}
use Rattle.up_machine.proofs.Lists.{Each-cons, Each-nil}
use Rattle.up_jobs.specs.declared.solved.Solved.{Solved}
use Rattle.up_jobs.specs.Solving.{IsBriefOf, IsSolved}
use Rattle.up_core.specs.View.{CoreView, now, with_event}
use Rattle.up_seats.specs.Seats.{IsAnswered}
use Rattle.up_seats.proofs.Made.{IsRoomier}
use Rattle.up_trials.specs.Workers.{HasNoJobs, IsFree, KeepsOthers}

none_own : (w : ℕ) (jobs : List Held) → held_by (released w jobs) w ≡ None
none_own w [] = refl
none_own w (h ∷ jobs) = step (nat_eq h.worker w) refl (none_own w jobs)
  where
    step : (b : Bool) → nat_eq h.worker w ≡ b → held_by (released w jobs) w ≡ None → held_by (cond (not b) (h ∷ released w jobs) (released w jobs)) w ≡ None
    step true is rest = rest
    step false is rest = ap (λ b. option_map (λ (x : Held). x.given) (cond b (Some h) (find (λ (x : Held). nat_eq x.worker w) (released w jobs)))) is ∙ rest

module _ (c d : CoreView) (e : Event) (made : d ≡ with_event c e) where
  pub keeps : KeepsOthers c (worker_of e) d
  keeps = record {
    sys = ap (λ (x : CoreView). x.sys) made;
    limits = ap (λ (x : CoreView). x.limits) made;
    held = λ other apart.
        ap (λ (x : CoreView). held_by (now x).jobs other) made
        ∙ stays-held c.history (e ∷ []) other
        (Each-cons e [] (λ k f. ¬ (worker_of f ≡ other)) (λ same. apart (sym same)) (Each-nil (λ k f. ¬ (worker_of f ≡ other))));
  }

  -- of an event that ends its worker's job
  pub free_after : jobs_after e (job_of_event (now c) e) (now c).jobs ≡ released (worker_of e) (now c).jobs → IsFree d (worker_of e)
  free_after ends =
      ap (λ (x : CoreView). held_by (now x).jobs (worker_of e)) made
      ∙ ap (λ (m : Machine). held_by m.jobs (worker_of e)) (replay-push c.history e)
      ∙ ap (λ jobs. held_by jobs (worker_of e)) ends
      ∙ none_own (worker_of e) (now c).jobs

-- where there was made room before
pub keeps_with_room : (a b d : CoreView) (e : Event) → IsRoomier a b → d ≡ with_event b e → KeepsOthers a (worker_of e) d
keeps_with_room a b d e room made =
    let k = keeps b d e made in
    record {
      sys = k.sys ∙ ap (λ (x : CoreView). x.sys) room;
      limits = k.limits ∙ ap (λ (x : CoreView). x.limits) room;
      held = λ other apart. k.held other apart ∙ ap (λ (x : CoreView). held_by (now x).jobs other) room;
    }

-- what another worker holds, and what its search has answered
module _ (a b : CoreView) (worker other : ℕ) (keep : KeepsOthers a worker b) (apart : other ≢ worker) where
  pub still_free : IsFree a other → IsFree b other
  still_free free = keep.held other apart ∙ free

  pub still_answered : (brief : Brief) (solved : Solved) → IsAnswered a other brief solved → IsAnswered b other brief solved
  still_answered brief solved (given, h) = (
    given,
    record {
      held = keep.held other apart ∙ h.held;
      brief_is = subst (λ (s : System). IsBriefOf s.sig given brief) (sym keep.sys) h.brief_is;
      answer = subst (λ (s : System). IsSolved s b.limits.weight brief solved) (sym keep.sys)
          (subst (λ (l : Limits). IsSolved a.sys l.weight brief solved) (sym keep.limits) h.answer);
    },
  )

-- nobody holds a job
pub free_of_none : (c : CoreView) (worker : ℕ) → HasNoJobs c → IsFree c worker
free_of_none c worker none = ap (λ jobs. held_by jobs worker) none

-- the call's answer was that the event is made
pub made_where_ok : {T E : Type 0} (c d : CoreView) (e : Event) (r : Result T E) (x : T) → r ≡ Ok x → OnOk r (d ≡ with_event c e) → d ≡ with_event c e
made_where_ok c d e r x is made = subst (λ y. OnOk y (d ≡ with_event c e)) is made
