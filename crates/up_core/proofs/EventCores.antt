-- The machine in code after each event.
use Rattle.std.proofs.Common.{◌≡◌, ℕ, ◌+◌, ◌-◌, ◌^◌, ◌<◌, ◌≤◌, max, true, false, [], ◌∷◌, ◌++◌, length, Option, None, Some, is_some, slice_get, refl, sym, ap, subst, ◌∙◌, arith}
use Rattle.std.specs.Global.{Vec}
use Rattle.std.specs.Vec.{vec_len, vec_capacity}
use Rattle.std.specs.List.{count_by}
use Rattle.std.specs.Prelude.{option_map}
use Rattle.fo_core.specs.declared.order.Order.{Order}
use Rattle.fo_core.specs.declared.system.System.{System}
use Rattle.up_machine.specs.declared.end.End.{End}
use Rattle.up_machine.specs.declared.end.End.TheVariants as N
use Rattle.up_machine.specs.declared.event.Event.{Event}
use Rattle.up_machine.specs.declared.event.Event.TheVariants as E
use Rattle.up_machine.specs.declared.event.Why.{Why}
use Rattle.up_machine.specs.declared.job.Job.{Job}
use Rattle.up_machine.specs.declared.job.Job.TheVariants as J
use Rattle.up_machine.specs.declared.job.Short.{Short}
use Rattle.up_machine.specs.declared.job.Short.TheVariants as S
use Rattle.up_machine.specs.declared.job.Task.TheVariants as T
use Rattle.up_machine.specs.declared.limits.Limits.{Limits}
use Rattle.up_machine.specs.Due.{IsDue, IsQuiet}
use Rattle.up_machine.specs.Legal.{IsLegal}
use Rattle.up_machine.specs.Machine.{Clause, Obligation, Given, Machine, held_by}
use Rattle.up_machine.specs.Replay.{happens, replay, released, is_productive, jobs_after, given_for, given_work, given_push, given_trace}
use Rattle.up_machine.specs.Rounds.{end_of}
use Rattle.up_machine.proofs.Dues.{due_advance}
use Rattle.up_machine.proofs.FrameEvents.{returned_job}
use Rattle.up_machine.proofs.Lists.{false_is_true, none_is_some}
use Rattle.up_core.specs.declared.state.State.{State}
use Rattle.up_core.specs.declared.state.Progress.TheVariants as P
use Rattle.up_core.specs.Becoming.{IsState}
use Rattle.up_core.specs.Choice.{is_done_seed}
use Rattle.up_core.specs.Holding.{IsCore}
use Rattle.up_core.specs.Known.{IsKnown, IsOpenFor, IsJobEnd}
use Rattle.up_core.specs.Mirror.{IsMirror}
use Rattle.up_core.specs.Room.{HasRoom, HasSpare, IsRoomyFor}
use Rattle.up_core.specs.Steps.{change_where, with_progress, finished, work_of_job, work_in, others_of, calm_of}
use Rattle.up_core.specs.View.{CoreView, HasVariablesForJob}
use Rattle.up_core.proofs.Counts.{length-push}
use Rattle.up_core.proofs.Mirrors.{advance-next, finish-next, secure-next, drop-next, return-next, close-next, is-taken, take-next}
use Rattle.up_core.proofs.NextCores.{core-next, report-room, open-of, legal-now, released-fewer, due-open, due-paid}
use Rattle.up_core.proofs.Roomy.{BringsFit, IsGoodTake, roomy-next}

-- what is left of the room
pub spare-less : (n : ℕ) (s : State) → HasSpare (n + 1) s → HasSpare n s
spare-less n s h = record { clauses = omega (arith, h.clauses); obligations = omega (arith, h.obligations); jobs = omega (arith, h.jobs) }

pub spare-down : (n p : ℕ) (s : State) → p ≤ n → HasSpare n s → HasSpare p s
spare-down n p s le h = record { clauses = omega (arith, le, h.clauses); obligations = omega (arith, le, h.obligations); jobs = omega (arith, le, h.jobs) }

-- the history with one more event, in the room that there was
pub record IsLonger (history : Vec Event) (e : Event) (h : Vec Event) : Type 0 where
  pub items : h.items ≡ history.items ++ e ∷ []
  pub len : vec_len h ≡ vec_len history + 1
  pub capacity : vec_capacity h ≡ vec_capacity history

module _ (sys : System) (order : Order) (limits : Limits) (history : Vec Event) (s : State) (spare picks variables widest : ℕ) (core : IsCore sys order limits history s spare picks variables widest) where
  abbrev here : Machine
  here = replay history.items

  abbrev view : CoreView
  view = record { sys = sys; order = order; limits = limits; history = history.items; spare = spare; variables = variables }

  abbrev IsAfter : Vec Event → State → Type 0
  IsAfter h t = IsCore sys order limits h t (spare - 1) picks variables widest

  abbrev KeepsRoom : State → Type 0
  KeepsRoom t = (n : ℕ) → HasSpare (n + 1) s → HasSpare n t

  pub open-for : (e : Event) → s.ended ≡ false → s.productive < limits.steps → IsOpenFor view e
  open-for e off lt = record { not_ended = open-of sys order limits history s spare picks variables widest core off; affordable = λ _. subst (λ n. n < limits.steps) (sym core.mirror.productive) lt }

  pub open-free : (e : Event) → is_productive e ≡ false → s.ended ≡ false → IsOpenFor view e
  open-free e free off = record { not_ended = open-of sys order limits history s spare picks variables widest core off; affordable = λ paid. false_is_true (sym free ∙ paid) }

  pub is-closed : (e : Event) → s.ended ≡ true → is_some here.ending ≡ true
  is-closed e on = core.mirror.ended ∙ on

  -- what an event brings that isn't room
  abbrev Brings : Event → Type 0
  Brings e = BringsFit variables widest here e

  step : (e : Event) (h : Vec Event) (t : State) → Brings e → 1 ≤ spare → IsLegal sys limits here e → IsLonger history e h → KeepsRoom t →
      IsMirror sys (history.items ++ e ∷ []) (happens here e) t → ((happens here e).ending ≡ None → length (happens here e).jobs ≤ spare - 1) → IsAfter h t
  step e h t brings some legal longer room mirror enough =
      let a = longer.len in
      let b = longer.capacity in
      let events : HasRoom (spare - 1) h = omega (arith, core.room.events, a, b) in
      core-next sys order limits history s spare picks variables widest core e h t (spare - 1) legal longer.items events (room (spare - 1) (spare-down spare (spare - 1 + 1) s (omega arith) core.room.entries)) mirror enough widest
      (roomy-next variables widest here e core.picks_for.roomy brings)

  -- a report ends its worker's job
  report-step : (e : Event) (w : ℕ) (g : Given) (h : Vec Event) (t : State) → Brings e → held_by here.jobs w ≡ Some g → s.ended ≡ false → (happens here e).jobs ≡ released w here.jobs →
      IsLegal sys limits here e → IsLonger history e h → KeepsRoom t → IsMirror sys (history.items ++ e ∷ []) (happens here e) t → IsAfter h t
  report-step e w g h t brings held off jobs legal longer room mirror =
      step e h t brings (report-room sys order limits history s spare picks variables widest core w g held off) legal longer room mirror
      (λ _.
      let fewer = released-fewer w here.jobs g held in
      let enough = core.room.enough (open-of sys order limits history s spare picks variables widest core off) in
      let e = ap length jobs in
      omega (arith, fewer, enough, e))

  pub secure-core : (w : ℕ) (h : Vec Event) (t : State) → IsKnown view (E.Secure w) → s.ended ≡ false → s.productive < limits.steps → IsLonger history (E.Secure w) h → KeepsRoom t →
      IsState t s.clauses.items s.obligations.items (others_of w s.jobs.items) s.clauses.frontier s.clauses.frontier s.calm (s.productive + 1) s.ended → IsAfter h t
  secure-core w h t known off paid longer room is =
      report-step (E.Secure w) w _ h t (record { cubes = λ c is. none_is_some c is; states = λ o is. none_is_some o is; taken = tt }) known.look.held off refl (legal-now view (E.Secure w) known (record { open_for = open-for (E.Secure w) off paid; in_place = tt })) longer room
      (secure-next sys history.items here s t core.mirror w is)

  pub drop-core : (w k : ℕ) (h : Vec Event) (t : State) → IsKnown view (E.Drop w k) → s.ended ≡ false → s.productive < limits.steps → IsLonger history (E.Drop w k) h → KeepsRoom t →
      IsState t s.clauses.items (finished (work_in w s.jobs.items) s.obligations.items) (others_of w s.jobs.items) s.clauses.frontier s.secure s.calm (s.productive + 1) s.ended → IsAfter h t
  drop-core w k h t known off paid longer room is =
      report-step (E.Drop w k) w _ h t (record { cubes = λ c is. none_is_some c is; states = λ o is. none_is_some o is; taken = tt }) known.work.held off refl (legal-now view (E.Drop w k) known (record { open_for = open-for (E.Drop w k) off paid; in_place = tt })) longer room
      (drop-next sys history.items here s t core.mirror w k known.work is)

  pub return-core : (w : ℕ) (why : Why) (h : Vec Event) (t : State) → IsKnown view (E.Return w why) → s.ended ≡ false → IsLonger history (E.Return w why) h → KeepsRoom t →
      IsState t s.clauses.items (change_where (work_in w s.jobs.items) (with_progress P.Ready) s.obligations.items) (others_of w s.jobs.items) s.clauses.frontier s.secure (calm_of why w s.jobs.items s.calm) s.productive s.ended →
      IsAfter h t
  return-core w why h t known off longer room is =
      let job = returned_job sys limits here w why known in
      report-step (E.Return w why) w job.given h t (record { cubes = λ c is. none_is_some c is; states = λ o is. none_is_some o is; taken = tt }) job.held off refl (legal-now view (E.Return w why) known (record { open_for = open-free (E.Return w why) refl off; in_place = tt })) longer room
      (return-next sys history.items here s t core.mirror limits w why known is)

  -- what a worker holds whose job ends the run
  closed-job : (w : ℕ) (end : End) → IsJobEnd end → IsKnown view (E.Close w end) → (g : Given) × (held_by here.jobs w ≡ Some g)
  closed-job w (N.Unsafe run) job known = (_, known.trace.held)
  closed-job w N.NoUniversal job known = (_, known.trace.held)
  closed-job w (N.Over kind excess) job known = (_, known.job.held)
  closed-job w (N.Safe i) job known = absurd job
  closed-job w N.Bounded job known = absurd job
  closed-job w N.Spent job known = absurd job

  pub close-core : (w : ℕ) (end : End) (h : Vec Event) (t : State) → IsJobEnd end → IsKnown view (E.Close w end) → s.ended ≡ false → IsLonger history (E.Close w end) h → KeepsRoom t →
      IsState t s.clauses.items s.obligations.items (others_of w s.jobs.items) s.clauses.frontier s.secure s.calm s.productive true → IsAfter h t
  close-core w end h t job known off longer room is =
      let held = closed-job w end job known in
      step (E.Close w end) h t (record { cubes = λ c is. none_is_some c is; states = λ o is. none_is_some o is; taken = tt }) (report-room sys order limits history s spare picks variables widest core w held.0 held.1 off) (legal-now view (E.Close w end) known (record { open_for = open-free (E.Close w end) refl off; in_place = tt })) longer room
      (close-next sys history.items here s t core.mirror w end job is) (λ open_one. none_is_some end (sym open_one))

  pub advance-core : (w : ℕ) (h : Vec Event) (t : State) → 1 ≤ spare → IsKnown view (E.Advance w) → IsLonger history (E.Advance w) h → KeepsRoom t →
      IsState t s.clauses.items s.obligations.items s.jobs.items (s.clauses.frontier + 1) s.secure None (s.productive + 1) s.ended → IsAfter h t
  advance-core w h t some known longer room is =
      let opened = due-open sys limits here T.Advance (λ e. not_ended e) known in
      let legal : IsLegal sys limits here (E.Advance w) = record { not_ended = opened; affordable = λ _. due-paid sys limits here known; allowed = known } in
      step (E.Advance w) h t (record { cubes = λ c is. none_is_some c is; states = λ o is. none_is_some o is; taken = tt }) some legal longer room (advance-next sys history.items here s t core.mirror w is)
      (λ _. let idle = ap length (quiet known).no_job in omega (arith, idle))
    where
      not_ended : T.Advance ≡ T.Ended → ⊥
      not_ended e = cc

      quiet : IsDue sys limits here T.Advance → IsQuiet here
      quiet due = due_advance sys limits here due

  pub finish-core : (w : ℕ) (short : Short) (h : Vec Event) (t : State) → 1 ≤ spare → IsKnown view (E.Close w (end_of short)) → IsLonger history (E.Close w (end_of short)) h → KeepsRoom t →
      IsState t s.clauses.items s.obligations.items s.jobs.items s.clauses.frontier s.secure s.calm s.productive true → IsAfter h t
  finish-core w short h t some known longer room is =
      step (E.Close w (end_of short)) h t (record { cubes = λ c is. none_is_some c is; states = λ o is. none_is_some o is; taken = tt }) some legal longer room (finish-next sys history.items here s t core.mirror w short is) (λ open_one. none_is_some (end_of short) (sym open_one))
    where
      due : (short : Short) → IsKnown view (E.Close w (end_of short)) → IsDue sys limits here (T.Finish short)
      due (S.Safe i) known = known
      due S.Bounded known = known
      due S.Spent known = known

      differ : T.Finish short ≡ T.Ended → ⊥
      differ e = cc

      legal : IsLegal sys limits here (E.Close w (end_of short))
      legal = record { not_ended = due-open sys limits here (T.Finish short) differ (due short known); affordable = λ e. false_is_true e; allowed = known }

  pub take-core : (w : ℕ) (job : Job) (h : Vec Event) (t : State) → length here.jobs + 2 ≤ spare → HasVariablesForJob view job → IsKnown view (E.Take w job) → IsLonger history (E.Take w job) h → KeepsRoom t →
      IsState t s.clauses.items (change_where (work_of_job job) (with_progress P.Out) s.obligations.items)
      (s.jobs.items ++ record { worker = w; job = job; done = count_by is_done_seed s.obligations.items } ∷ []) s.clauses.frontier s.secure s.calm s.productive s.ended → IsAfter h t
  take-core w job h t some wide known longer room is =
      let taken = is-taken sys history.items here s t core.mirror limits job known.due in
      let legal : IsLegal sys limits here (E.Take w job) = record { not_ended = due-open sys limits here (T.Job job) differ known.due; affordable = λ e. false_is_true e; allowed = known } in
      step (E.Take w job) h t (record { cubes = λ c is. none_is_some c is; states = λ o is. none_is_some o is; taken = fits job wide }) (omega (arith, some)) legal longer room (take-next sys history.items here s t core.mirror w job taken is)
      (λ _. let one = ap length (jobs-are taken.given taken.is) ∙ length-push here.jobs (record { worker = w; given = taken.given }) in omega (arith, one, some))
    where
      differ : T.Job job ≡ T.Ended → ⊥
      differ e = cc

      fits : (job : Job) → HasVariablesForJob view job → IsGoodTake (IsRoomyFor variables) (E.Take w job) (given_for here job)
      fits (J.Work k) wide = works (slice_get here.obligations k) refl
        where
          works : (o : Option Obligation) → slice_get here.obligations k ≡ o → IsGoodTake (IsRoomyFor variables) (E.Take w (J.Work k)) (option_map (given_work here.clauses k) o)
          works None is = tt
          works (Some o) is = wide o is
      fits J.Look wide = tt
      fits (J.Push k) wide = pushes (slice_get here.clauses k)
        where
          pushes : (o : Option Clause) → IsGoodTake (IsRoomyFor variables) (E.Take w (J.Push k)) (option_map (given_push here.clauses k) o)
          pushes None = tt
          pushes (Some c) = tt
      fits (J.Trace k) wide = traces (slice_get here.obligations k)
        where
          traces : (o : Option Obligation) → IsGoodTake (IsRoomyFor variables) (E.Take w (J.Trace k)) (option_map (given_trace here.frontier k) o)
          traces None = tt
          traces (Some o) = tt

      jobs-are : (g : Given) → given_for here job ≡ Some g → (happens here (E.Take w job)).jobs ≡ here.jobs ++ record { worker = w; given = g } ∷ []
      jobs-are g is = ap (λ j. jobs_after (E.Take w job) j here.jobs) is

  pub advance-paid : (w : ℕ) → IsKnown view (E.Advance w) → s.productive + 1 < 2 ^ 32
  advance-paid w known =
      let paid = due-paid sys limits here known in
      let most = core.in_range.steps.high in
      let is = core.mirror.productive in
      omega (arith, paid)

-- room for the greater of two numbers
pub spare-max : (a b p : ℕ) (s : State) → p ≡ max a b → HasSpare a s → HasSpare b s → HasSpare p s
spare-max a b p s is h k = record { clauses = omega (arith, is, h.clauses, k.clauses); obligations = omega (arith, is, h.obligations, k.obligations); jobs = omega (arith, is, h.jobs, k.jobs) }
