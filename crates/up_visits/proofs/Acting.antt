-- What a worker does on the machine in code, and what it holds afterwards.
use Rattle.std.proofs.Common.{◌≡◌, ◌≢◌, inl, inr, ℕ, ◌≤◌, Bool, true, false, not, cond, find, nat_eq, List, [], ◌∷◌, Option, None, Some, Result, Ok, Err, refl, sym, ap, subst, ◌∙◌, true≢false}
use Rattle.std.specs.Option.{is_some}
use Rattle.std.specs.Prelude.{option_map}
use Rattle.std.specs.Result.{MatchResult, OnErr, OnOk}
use Rattle.up_machine.specs.declared.end.End.{End}
use Rattle.up_machine.specs.declared.end.End.TheVariants as N
use Rattle.up_machine.specs.declared.event.Event.{Event}
use Rattle.up_machine.specs.declared.event.Event.TheVariants as E
use Rattle.up_machine.specs.declared.event.Why.{Why}
use Rattle.up_machine.specs.declared.event.Why.TheVariants as Y
use Rattle.up_machine.specs.declared.job.Job.{Job}
use Rattle.up_machine.specs.declared.job.Short.{Short}
use Rattle.up_machine.specs.declared.job.Short.TheVariants as S
use Rattle.up_machine.specs.declared.job.Task.{Task}
use Rattle.up_machine.specs.declared.job.Task.TheVariants as T
use Rattle.up_machine.specs.declared.not_now.NotNow.{NotNow}
use Rattle.up_machine.specs.declared.not_now.NotNow.TheVariants as W
use Rattle.up_machine.specs.Due.{IsDue}
use Rattle.up_machine.specs.Finding.{HoldsJob}
use Rattle.up_machine.specs.Legal.{MayReturnSpent, MayTake}
use Rattle.up_machine.specs.Machine.{Given, Held, Machine, held_by}
use Rattle.up_machine.specs.Replay.{happens, jobs_after, released, replay, worker_of}
use Rattle.up_machine.specs.Rounds.{IsRoundReport, end_of}
use Rattle.up_machine.proofs.Histories.{replay-push}
use Rattle.up_machine.proofs.Lists.{none_is_some}
use Rattle.up_core.specs.Known.{IsNow, IsNotNow}
use Rattle.up_core.specs.View.{CoreView, now, with_event}
use Rattle.up_core.proofs.NextCores.{due-open}
use Rattle.up_seats.specs.Making.{HasMade}
use Rattle.up_seats.specs.Seats.{IsReported, MayStop}
use Rattle.up_seats.proofs.Made.{IsRoomier, made_after, made_event, made_nothing, made_room}
use Rattle.up_seats.proofs.Reporting.{report_jobs}
use Rattle.up_visits.specs.GivingUp.{gives_up, NoneGivesUp}
use Rattle.up_visits.specs.Passes.{HasEnded, IsIdle}
use Rattle.up_visits.specs.Visits.{HasActed, HasActedWell, HasPutBack}
use Rattle.up_visits.proofs.OthersEvents.{ended_on}

-- 1. Events.

pub quiet_one : (e : Event) → gives_up e ≡ false → NoneGivesUp (e ∷ [])
quiet_one e h = ap (λ b. cond b (e ∷ []) []) h

module _ (a d : CoreView) (w : ℕ) where
  pub acted_none : HasMade a [] d → HasActedWell a w d
  acted_none made = record { acted = record { events = []; made = made; one = inl refl }; none = refl }

  pub acted_one : (e : Event) → HasMade a (e ∷ []) d → worker_of e ≡ w → gives_up e ≡ false → HasActedWell a w d
  acted_one e made by quiet = record { acted = record { events = e ∷ []; made = made; one = inr (e, refl, by) }; none = quiet_one e quiet }

-- once there is room
pub acted_room : (a b d : CoreView) (w : ℕ) → IsRoomier a b → HasActedWell b w d → HasActedWell a w d
acted_room a b d w room h = record {
  acted = record { events = h.acted.events; made = made_after a b d h.acted.events (made_room a b room) h.acted.made; one = h.acted.one };
  none = h.none;
}

pub acted_same : (a b : CoreView) (w : ℕ) → IsRoomier a b → HasActedWell a w b
acted_same a b w room = acted_none a b w (made_room a b room)

-- 2. Jobs.

-- an event that needs no job
abbrev pub IsJobless : Event → Type 0
IsJobless (E.Advance w) = Unit {0}
IsJobless (E.Retire w gone by) = Unit {0}
IsJobless (E.Close w (N.Safe i)) = Unit {0}
IsJobless (E.Close w N.Bounded) = Unit {0}
IsJobless (E.Close w N.Spent) = Unit {0}
IsJobless e = ⊥

jobs_kept : (e : Event) (g : Option Given) (js : List Held) → IsJobless e → jobs_after e g js ≡ js
jobs_kept (E.Advance w) g js h = refl
jobs_kept (E.Retire w gone by) g js h = refl
jobs_kept (E.Close w (N.Safe i)) g js h = refl
jobs_kept (E.Close w N.Bounded) g js h = refl
jobs_kept (E.Close w N.Spent) g js h = refl
jobs_kept (E.Close w (N.Unsafe x)) g js h = absurd h
jobs_kept (E.Close w N.NoUniversal) g js h = absurd h
jobs_kept (E.Close w (N.Over kind x)) g js h = absurd h
jobs_kept (E.Seed w s) g js h = absurd h
jobs_kept (E.Take w j) g js h = absurd h
jobs_kept (E.Return w y) g js h = absurd h
jobs_kept (E.Learn w c) g js h = absurd h
jobs_kept (E.Before w o) g js h = absurd h
jobs_kept (E.Drop w c) g js h = absurd h
jobs_kept (E.Raise w) g js h = absurd h
jobs_kept (E.Fail w p) g js h = absurd h
jobs_kept (E.Secure w) g js h = absurd h

idle_on : (m : Machine) (w : ℕ) (e : Event) → IsJobless e → IsIdle m w → IsIdle (happens m e) w
idle_on m w e none (inl free) = inl (ap (λ js. held_by js w) (jobs_kept e _ m.jobs none) ∙ free)
idle_on m w e none (inr ended) = inr (ended_on m e ended)

-- who puts a job back, or reports, holds none
none_left : (w : ℕ) (js : List Held) → held_by (released w js) w ≡ None
none_left w [] = refl
none_left w (h ∷ js) = step (nat_eq h.worker w) refl (none_left w js)
  where
    step : (b : Bool) → nat_eq h.worker w ≡ b → held_by (released w js) w ≡ None →
        option_map (λ (x : Held). x.given) (find (λ (x : Held). nat_eq x.worker w) (cond (not b) (h ∷ released w js) (released w js))) ≡ None
    step true is rest = rest
    step false is rest = ap (λ b. option_map (λ (x : Held). x.given) (cond b (Some h) (find (λ (x : Held). nat_eq x.worker w) (released w js)))) is ∙ rest

-- 3. On the machine in code.

module _ (b d : CoreView) (w : ℕ) (e : Event) (made : d ≡ with_event b e) where
  machine_is : now d ≡ happens (now b) e
  machine_is = ap (λ (x : CoreView). replay x.history) made ∙ replay-push b.history e

  pub idle_jobless : IsJobless e → IsIdle (now b) w → IsIdle (now d) w
  idle_jobless none idle = subst (λ m. IsIdle m w) (sym machine_is) (idle_on (now b) w e none idle)

pub idle_same : (a b : CoreView) (w : ℕ) → IsRoomier a b → IsIdle (now a) w → IsIdle (now b) w
idle_same a b w room idle = subst (λ (x : CoreView). IsIdle (now x) w) (sym room) idle

pub jobless_end : (short : Short) (w : ℕ) → IsJobless (E.Close w (end_of short))
jobless_end (S.Safe i) w = tt
jobless_end S.Bounded w = tt
jobless_end S.Spent w = tt

-- who is idle where a job is due may take it
abbrev is_ended : Task → Bool
is_ended T.Ended = true
is_ended _ = false

open_for : (c : CoreView) (job : Job) → IsDue c.sys c.limits (now c) (T.Job job) → (now c).ending ≡ None
open_for c job due = due-open c.sys c.limits (now c) (T.Job job) (λ e. true≢false (sym (ap is_ended e))) due

pub may_take : (c : CoreView) (w : ℕ) (job : Job) → IsIdle (now c) w → IsDue c.sys c.limits (now c) (T.Job job) → MayTake c.sys c.limits (now c) w job
may_take c w job (inl free) due = record { free = free; due = due }
may_take c w job (inr ended) due = none_is_some ended.0 (sym (open_for c job due) ∙ ended.1)

-- 4. A job that is put back.

ended_now : (o : Option End) → is_some o ≡ true → (x : End) × (o ≡ Some x)
ended_now None h = absurd (true≢false (sym h))
ended_now (Some x) h = (x, refl)

pub put_answer : {T : Type 0} (a d : CoreView) (w : ℕ) (why : Why) (r : Result T NotNow) → OnOk r (d ≡ with_event a (E.Return w why)) → OnErr r (d ≡ a) →
    MatchResult r (λ _. IsNow a (E.Return w why)) (λ refused. IsNotNow a (E.Return w why) refused) → HasPutBack a w why d
put_answer a d w why (Ok x) made same answer = inl made
put_answer a d w why (Err W.Closed) made same answer = inr (same, ended_now (now a).ending answer)
put_answer a d w why (Err W.Spent) made same answer = absurd (true≢false (sym answer.1))
put_answer a d w why (Err (W.Own k)) made same answer = absurd answer.1
put_answer a d w why (Err (W.Refuted k)) made same answer = absurd answer.1

module _ (a d : CoreView) (w : ℕ) (why : Why) where
  pub put_acted : HasPutBack a w why d → HasActed a w d
  put_acted (inl made) = record { events = E.Return w why ∷ []; made = made_event a d (E.Return w why) made; one = inr (E.Return w why, refl, refl) }
  put_acted (inr kept) = record { events = []; made = subst (HasMade a []) (sym kept.0) (made_nothing a); one = inl refl }

  pub put_idle : HasPutBack a w why d → IsIdle (now d) w
  put_idle (inl made) = inl (ap (λ (m : Machine). held_by m.jobs w) (machine_is a d w (E.Return w why) made) ∙ none_left w (now a).jobs)
  put_idle (inr kept) = inr (subst (λ (x : CoreView). HasEnded (now x)) (sym kept.0) kept.1)

  pub put_quiet : gives_up (E.Return w why) ≡ false → HasPutBack a w why d → HasActedWell a w d
  put_quiet quiet (inl made) = acted_one a d w (E.Return w why) (made_event a d (E.Return w why) made) refl quiet
  put_quiet quiet (inr kept) = acted_none a d w (subst (HasMade a []) (sym kept.0) (made_nothing a))

-- 5. A report.

report_quiet : (m : Machine) (steps : ℕ) (e : Event) → IsRoundReport m steps e → gives_up e ≡ false
report_quiet m steps (E.Return w Y.NoMemory) h = absurd h
report_quiet m steps (E.Return w Y.Spent) h = refl
report_quiet m steps (E.Return w Y.NoMore) h = refl
report_quiet m steps (E.Return w (Y.Refuted p k)) h = refl
report_quiet m steps (E.Seed w s) h = refl
report_quiet m steps (E.Take w j) h = refl
report_quiet m steps (E.Learn w c) h = refl
report_quiet m steps (E.Before w o) h = refl
report_quiet m steps (E.Drop w c) h = refl
report_quiet m steps (E.Raise w) h = refl
report_quiet m steps (E.Fail w p) h = refl
report_quiet m steps (E.Secure w) h = refl
report_quiet m steps (E.Advance w) h = refl
report_quiet m steps (E.Close w x) h = refl
report_quiet m steps (E.Retire w gone by) h = refl

module _ (a d : CoreView) (w : ℕ) where
  pub reported_acted : (b : Bool) → b ≡ true → IsReported a w b d → HasActedWell a w d
  reported_acted b is h =
      let r = subst (λ x. IsReported a w x d) is h in
      acted_one a d w r.0 r.1 r.2.by_seat (report_quiet (now a) a.limits.steps r.0 r.2.kind)

  pub reported_idle : (b : Bool) → b ≡ true → IsReported a w b d → IsIdle (now d) w
  reported_idle b is h =
      let r = subst (λ x. IsReported a w x d) is h in
      let there : now d ≡ happens (now a) r.0 = ap replay r.1.history ∙ replay-push a.history r.0 in
      let free : held_by (now d).jobs w ≡ None =
      ap (λ (m : Machine). held_by m.jobs w) there
      ∙ (ap (λ js. held_by js w) (report_jobs a.sys a.limits (now a) w r.0 r.2)
      ∙ none_left w (now a).jobs) in
      inl free

  -- who couldn't report may put its job back where the steps are spent
  pub unreported_same : (b : Bool) → b ≡ false → IsReported a w b d → d ≡ a
  unreported_same b is h = (subst (λ x. IsReported a w x d) is h).0

  pub unreported_spent : (b : Bool) → b ≡ false → IsReported a w b d → HoldsJob (now a) w → d.limits.steps ≤ (now d).productive → MayReturnSpent d.sys d.limits (now d) w
  unreported_spent b is h job spent = record {
    job = subst (λ (x : CoreView). HoldsJob (now x) w) (sym (unreported_same b is h)) job;
    spent = spent;
  }

  -- and else the run has ended
  pub unreported_ended : (b : Bool) → b ≡ false → IsReported a w b d → ¬ (d.limits.steps ≤ (now d).productive) → HasEnded (now d)
  unreported_ended b is h unspent =
      let same = unreported_same b is h in
      subst (λ (x : CoreView). HasEnded (now x)) (sym same)
      (by (subst (λ x. IsReported a w x d) is h).2 (subst (λ (x : CoreView). ¬ (x.limits.steps ≤ (now x).productive)) same unspent))
    where
      some_end : (o : Option End) → o ≢ None → (x : End) × (o ≡ Some x)
      some_end None n = absurd (n refl)
      some_end (Some x) n = (x, refl)

      by : MayStop a w → ¬ (a.limits.steps ≤ (now a).productive) → HasEnded (now a)
      by (inl over) unspent = some_end (now a).ending over
      by (inr spent) unspent = absurd (unspent spent.0)

  pub unreported_acted : (b : Bool) → b ≡ false → IsReported a w b d → HasActedWell a w d
  unreported_acted b is h = acted_none a d w (subst (HasMade a []) (sym (unreported_same b is h)) (made_nothing a))

-- after a report that couldn't be made, a job put back
pub put_then : (a b d : CoreView) (w : ℕ) (why : Why) → b ≡ a → HasPutBack b w why d → HasPutBack a w why d
put_then a b d w why same h = subst (λ x. HasPutBack x w why d) same h
