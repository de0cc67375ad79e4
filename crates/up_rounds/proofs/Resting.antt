-- What holds in a round that begins at rest.
use Rattle.std.proofs.Common.{◌≡◌, ℕ, suc, ◌+◌, ◌≤◌, ◌⊎◌, inl, inr, List, [], ◌∷◌, ◌++◌, length, Option, None, Some, slice_get, refl, sym, ap, subst, ◌∙◌, true≢false, arith}
use Rattle.std.specs.Prelude.{option_map}
use Rattle.fo_core.specs.declared.system.System.{System}
use Rattle.up_machine.specs.declared.limits.Limits.{Limits}
use Rattle.up_machine.specs.declared.end.End.{End}
use Rattle.up_machine.specs.declared.job.Job.{Job}
use Rattle.up_machine.specs.declared.job.Job.TheVariants as J
use Rattle.up_machine.specs.declared.job.Short.TheVariants as S
use Rattle.up_machine.specs.declared.job.Task.TheVariants as T
use Rattle.up_machine.specs.declared.event.Event.{Event}
use Rattle.up_machine.specs.declared.event.Event.TheVariants as E
use Rattle.up_machine.specs.Machine.{Held, Machine, start, held_by}
use Rattle.up_machine.specs.Replay.{worker_of, given_trace, given_for, jobs_after, happens, run, replay}
use Rattle.up_machine.specs.Due.{IsFirstRooted, IsTrace, TraceIsOut, by_root, IsDue, job_of}
use Rattle.up_machine.specs.Legal.{IsLegal, Legal}
use Rattle.up_machine.specs.Rounds.{Takes}
use Rattle.up_machine.specs.Sound.{Each}
use Rattle.up_machine.proofs.Holding.{run-held}
use Rattle.up_machine.proofs.Idle.{idle_busy}
use Rattle.up_machine.proofs.Lists.{Each-cons, Each-nil, any-of_place}
use Rattle.up_machine.proofs.Waiting.{get-last}
use Rattle.up_rounds.specs.OneRound.{AreTakes, IsAtRest}
use Rattle.up_rounds.proofs.OneCourse.{no_take}

pub rest_start : (limits : Limits) → IsAtRest limits start
rest_start limits = record { free = refl; jobs = inl refl }

pub rest_advance : (limits : Limits) (m : Machine) (w : ℕ) → IsAtRest limits m → IsAtRest limits (happens m (E.Advance w))
rest_advance limits m w r = record { free = r.free; jobs = by r.jobs }
  where
    by : (m.jobs ≡ []) ⊎ (limits.steps ≤ m.productive) × ¬ TraceIsOut m → (m.jobs ≡ []) ⊎ (limits.steps ≤ suc m.productive) × ¬ TraceIsOut m
    by (inl none) = inl none
    by (inr h) = inr (omega (arith, h.0), h.1)

pub rest_retire : (limits : Limits) (m : Machine) (w gone by : ℕ) → IsAtRest limits m → IsAtRest limits (happens m (E.Retire w gone by))
rest_retire limits m w gone by r = record { free = r.free; jobs = r.jobs }

-- after its take a trace is out
pub trace_out : (m : Machine) (seat k : ℕ) → IsFirstRooted m k → TraceIsOut (happens m (E.Take seat (J.Trace k)))
trace_out m seat k rooted =
    let given = given_trace m.frontier k rooted.found in
    let held : Held = record { worker = seat; given = given } in
    let found : given_for m (J.Trace k) ≡ Some given = ap (option_map (given_trace m.frontier k)) rooted.there in
    let jobs : (happens m (E.Take seat (J.Trace k))).jobs ≡ m.jobs ++ held ∷ [] = ap (λ g. jobs_after (E.Take seat (J.Trace k)) g m.jobs) found in
    let there : slice_get (happens m (E.Take seat (J.Trace k))).jobs (length m.jobs) ≡ Some held = ap (λ js. slice_get js (length m.jobs)) jobs ∙ get-last m.jobs held in
    any-of_place (λ (h : Held). IsTrace (job_of h.given)) (happens m (E.Take seat (J.Trace k))).jobs (length m.jobs) held there tt

module _ (sys : System) (limits : Limits) where
  -- once the steps are spent
  module _ (m : Machine) (spent : limits.steps ≤ m.productive) where
    waits_for : IsDue sys limits m T.Idle → TraceIsOut m
    waits_for (inl h) = absurd h
    waits_for (inr (a, inl h)) = absurd h
    waits_for (inr (a, inr (b, inl h))) = h.2
    waits_for (inr (a, inr (b, inr (c, inl h)))) = absurd h
    waits_for (inr (a, inr (b, inr (c, inr (d, h))))) = absurd (d (T.Finish S.Spent) spent)

    -- a job that is due is a trace
    record IsTraceDue (job : Job) : Type 0 where
      obligation : ℕ
      is : job ≡ J.Trace obligation
      rooted : IsFirstRooted m obligation
      none_out : ¬ TraceIsOut m

    by_rooted : (job : Job) → by_root sys limits m (T.Job job) → IsTraceDue job
    by_rooted (J.Trace k) h = record { obligation = k; is = refl; rooted = h.0; none_out = h.1 }
    by_rooted (J.Work k) h = absurd h
    by_rooted J.Look h = absurd h
    by_rooted (J.Push k) h = absurd h

    trace_due : (job : Job) → IsDue sys limits m (T.Job job) → IsTraceDue job
    trace_due job (inl h) = absurd h
    trace_due job (inr (a, inl h)) = absurd h
    trace_due job (inr (a, inr (b, inl h))) = by_rooted job h
    trace_due job (inr (a, inr (b, inr (c, inl h)))) = absurd h
    trace_due job (inr (a, inr (b, inr (c, inr (d, h))))) = absurd (d (T.Finish S.Spent) spent)

    taken_trace : (seat : ℕ) (t : Event) → Takes sys limits m seat t → TraceIsOut (happens m t)
    taken_trace seat t a =
        let due = trace_due a.job a.due in
        let event : t ≡ E.Take seat (J.Trace due.obligation) = a.is ∙ ap (λ j. E.Take seat j) due.is in
        subst (λ x. TraceIsOut (happens m x)) (sym event) (trace_out m seat due.obligation due.rooted)

  no_second : (m : Machine) (seat next : ℕ) (t e : Event) → limits.steps ≤ m.productive → Takes sys limits m seat t → ¬ Takes sys limits (happens m t) next e
  no_second m seat next t e spent a b =
      let still : limits.steps ≤ (happens m t).productive = subst (λ x. limits.steps ≤ (happens m x).productive) (sym a.is) spent in
      (trace_due (happens m t) still b.job b.due).none_out (taken_trace m spent seat t a)

  -- takes leave the seats after them as they were
  one_event : (t : Event) (v : ℕ) → ¬ (worker_of t ≡ v) → Each (t ∷ []) (λ k e. ¬ (worker_of e ≡ v))
  one_event t v other = Each-cons t [] (λ k e. ¬ (worker_of e ≡ v)) other (Each-nil (λ k e. ¬ (worker_of e ≡ v)))

  free_after : (m : Machine) (seat v : ℕ) (ts : List Event) → AreTakes sys limits m seat ts → seat + length ts ≤ v → held_by (run m ts).jobs v ≡ held_by m.jobs v
  free_after m seat v [] h le = refl
  free_after m seat v (t ∷ ts) h le =
      let worker : worker_of t ≡ seat = ap worker_of h.0.is in
      free_after (happens m t) (suc seat) v ts h.1 (omega (arith, le)) ∙ run-held m (t ∷ []) v (one_event t v (λ e. omega (arith, e, worker, le)))

  seat_free : (m : Machine) (ts : List Event) (e : Event) → IsAtRest limits m → AreTakes sys limits m 0 ts → Takes sys limits (run m ts) (length ts) e → held_by (run m ts).jobs (length ts) ≡ None
  seat_free m ts e r h a = free_after m 0 (length ts) ts h (omega arith) ∙ by r.jobs ts h a
    where
      by : (m.jobs ≡ []) ⊎ (limits.steps ≤ m.productive) × ¬ TraceIsOut m → (ts : List Event) → AreTakes sys limits m 0 ts → Takes sys limits (run m ts) (length ts) e → held_by m.jobs (length ts) ≡ None
      by (inl none) ts h a = ap (λ js. held_by js (length ts)) none
      by (inr s) [] h a = r.free
      by (inr s) (t ∷ []) h a = absurd (no_second m 0 1 t e s.0 h.0 a)
      by (inr s) (t ∷ (u ∷ ts)) h a = absurd (no_second m 0 1 t u s.0 h.0 h.1.0)

  not_over : (m : Machine) (seat : ℕ) (e : Event) → Takes sys limits m seat e → m.ending ≡ None
  not_over m seat e a = by m.ending refl
    where
      by : (end : Option End) → m.ending ≡ end → m.ending ≡ None
      by None is = is
      by (Some x) is = absurd (no_take sys limits m x is seat e a)

  pub take_legal : (m : Machine) (takes : List Event) (e : Event) → IsAtRest limits m → AreTakes sys limits m 0 takes → Takes sys limits (run m takes) (length takes) e → IsLegal sys limits (run m takes) e
  take_legal m takes e r h a =
      let n = run m takes in
      subst (IsLegal sys limits n) (sym a.is) (record {
        not_ended = not_over n (length takes) e a;
        affordable = λ t. absurd (true≢false (sym t));
        allowed = record { free = seat_free m takes e r h a; due = a.due };
      })

  pub nobody_waits : (history : List Event) → Legal sys limits history → IsAtRest limits (replay history) → ¬ IsDue sys limits (replay history) T.Idle
  nobody_waits history legal r idle = by r.jobs
    where
      by : ((replay history).jobs ≡ []) ⊎ (limits.steps ≤ (replay history).productive) × ¬ TraceIsOut (replay history) → ⊥
      by (inl none) = idle_busy sys limits history legal idle none
      by (inr s) = s.1 (waits_for (replay history) s.0 idle)
