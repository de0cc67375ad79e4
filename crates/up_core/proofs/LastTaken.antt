-- The job that a worker took last is the one that it holds.
use Rattle.std.proofs.Common.{◌≡◌, ℕ, zero, suc, Bool, true, false, cond, not, nat_eq, List, [], ◌∷◌, ◌++◌, find, Option, None, Some, slice_get, refl, sym, ap, subst, ◌∙◌, eqb-true, eq-eqb, true≢false}
use Rattle.std.specs.Prelude.{option_map}
use Rattle.std.specs.Option.{option_or}
use Rattle.fo_core.specs.declared.system.System.{System}
use Rattle.up_machine.specs.declared.end.End.TheVariants as N
use Rattle.up_machine.specs.declared.event.Event.{Event}
use Rattle.up_machine.specs.declared.event.Event.TheVariants as E
use Rattle.up_machine.specs.declared.job.Job.{Job}
use Rattle.up_machine.specs.declared.job.Job.TheVariants as J
use Rattle.up_machine.specs.declared.limits.Limits.{Limits}
use Rattle.up_machine.specs.Due.{job_of}
use Rattle.up_machine.specs.Legal.{IsLegal, AreLegal, Legal}
use Rattle.up_machine.specs.Machine.{Given, Held, Machine, start, held_by}
use Rattle.up_machine.specs.Replay.{given_work, given_push, given_trace, given_for, released, jobs_after, worker_of, happens, run, replay}
use Rattle.up_machine.specs.Sound.{Each}
use Rattle.up_machine.proofs.Holding.{run-held}
use Rattle.up_machine.proofs.Lists.{none_is_some, some_injective, mapped_some}
use Rattle.up_core.specs.Telling.{job_taken, last_job}

-- what a worker is given for a job is of that job
given-named : (m : Machine) (job : Job) (g : Given) → given_for m job ≡ Some g → job_of g ≡ job
given-named m (J.Work k) g e = let r = mapped_some (given_work m.clauses k) (slice_get m.obligations k) g e in ap job_of (sym r.2)
given-named m J.Look g e = ap job_of (sym (some_injective _ g e))
given-named m (J.Push k) g e = let r = mapped_some (given_push m.clauses k) (slice_get m.clauses k) g e in ap job_of (sym r.2)
given-named m (J.Trace k) g e = let r = mapped_some (given_trace m.frontier k) (slice_get m.obligations k) g e in ap job_of (sym r.2)

module _ (w : ℕ) where
  abbrev is_own : Held → Bool
  is_own h = nat_eq h.worker w

  abbrev given : Option Held → Option Given
  given o = option_map (λ (h : Held). h.given) o

  -- a worker who holds nothing holds what comes to it
  new-step : (h new : Held) (hs : List Held) → (held_by hs w ≡ None → held_by (hs ++ new ∷ []) w ≡ Some new.given) →
      (b : Bool) → given (cond b (Some h) (find is_own hs)) ≡ None → given (cond b (Some h) (find is_own (hs ++ new ∷ []))) ≡ Some new.given
  new-step h new hs rest true none = none_is_some h.given (sym none)
  new-step h new hs rest false none = rest none

  held-new : (new : Held) → nat_eq new.worker w ≡ true → (hs : List Held) → held_by hs w ≡ None → held_by (hs ++ new ∷ []) w ≡ Some new.given
  held-new new own [] none = ap (λ b. given (cond b (Some new) None)) own
  held-new new own (h ∷ hs) none = new-step h new hs (held-new new own hs) (is_own h) none

  -- a worker whose job ended holds nothing
  ended-step : (h : Held) (hs : List Held) (b : Bool) → is_own h ≡ b → held_by (released w hs) w ≡ None → given (find is_own (cond (not b) (h ∷ released w hs) (released w hs))) ≡ None
  ended-step h hs true e rest = rest
  ended-step h hs false e rest = ap (λ b. given (cond b (Some h) (find is_own (released w hs)))) e ∙ rest

  held-ended : (hs : List Held) → held_by (released w hs) w ≡ None
  held-ended [] = refl
  held-ended (h ∷ hs) = ended-step h hs (is_own h) refl (held-ended hs)

  -- what the worker holds, if it holds something, is of this job
  abbrev IsLast : List Held → Option Job → Type 0
  IsLast jobs last = (g : Given) → held_by jobs w ≡ Some g → last ≡ Some (job_of g)

  none-last : (v : ℕ) (jobs : List Held) (last : Option Job) → v ≡ w → IsLast (released v jobs) last
  none-last v jobs last same g e = none_is_some g (sym (subst (λ x. held_by (released x jobs) w ≡ None) (sym same) (held-ended jobs)) ∙ e)

  take-last : (m : Machine) (v : ℕ) (job : Job) (last : Option Job) → v ≡ w → held_by m.jobs v ≡ None → IsLast (jobs_after (E.Take v job) (given_for m job) m.jobs) (Some job)
  take-last m v job last same free = by (given_for m job) refl
    where
      none : held_by m.jobs w ≡ None
      none = subst (λ x. held_by m.jobs x ≡ None) same free

      by : (o : Option Given) → given_for m job ≡ o → IsLast (jobs_after (E.Take v job) o m.jobs) (Some job)
      by None is g e = none_is_some g (sym none ∙ e)
      by (Some new) is g e =
          let there = held-new (record { worker = v; given = new }) (eq-eqb v w same) m.jobs none in
          let one : new ≡ g = some_injective new g (sym there ∙ e) in
          ap Some (sym (given-named m job new is) ∙ ap job_of one)

  -- an event of the worker's own
  own-last : (sys : System) (limits : Limits) (m : Machine) (e : Event) (last : Option Job) → worker_of e ≡ w → IsLegal sys limits m e → IsLast m.jobs last →
      IsLast (happens m e).jobs (option_or (job_taken w e) last)
  own-last sys limits m (E.Take v job) last same legal h =
      subst (λ b. IsLast (happens m (E.Take v job)).jobs (option_or (cond b (Some job) None) last)) (sym (eq-eqb v w same)) (take-last m v job last same legal.allowed.free)
  own-last sys limits m (E.Advance v) last same legal h = h
  own-last sys limits m (E.Retire v gone by) last same legal h = h
  own-last sys limits m (E.Close v (N.Safe i)) last same legal h = h
  own-last sys limits m (E.Close v N.Bounded) last same legal h = h
  own-last sys limits m (E.Close v N.Spent) last same legal h = h
  own-last sys limits m (E.Close v (N.Unsafe x)) last same legal h = none-last v m.jobs last same
  own-last sys limits m (E.Close v N.NoUniversal) last same legal h = none-last v m.jobs last same
  own-last sys limits m (E.Close v (N.Over kind excess)) last same legal h = none-last v m.jobs last same
  own-last sys limits m (E.Seed v s) last same legal h = none-last v m.jobs last same
  own-last sys limits m (E.Return v why) last same legal h = none-last v m.jobs last same
  own-last sys limits m (E.Learn v cube) last same legal h = none-last v m.jobs last same
  own-last sys limits m (E.Before v origin) last same legal h = none-last v m.jobs last same
  own-last sys limits m (E.Drop v k) last same legal h = none-last v m.jobs last same
  own-last sys limits m (E.Raise v) last same legal h = none-last v m.jobs last same
  own-last sys limits m (E.Fail v p) last same legal h = none-last v m.jobs last same
  own-last sys limits m (E.Secure v) last same legal h = none-last v m.jobs last same

  other-taken : (e : Event) → nat_eq (worker_of e) w ≡ false → job_taken w e ≡ None
  other-taken (E.Take v job) off = ap (λ b. cond b (Some job) None) off
  other-taken (E.Advance v) off = refl
  other-taken (E.Retire v gone by) off = refl
  other-taken (E.Close v end) off = refl
  other-taken (E.Seed v s) off = refl
  other-taken (E.Return v why) off = refl
  other-taken (E.Learn v cube) off = refl
  other-taken (E.Before v origin) off = refl
  other-taken (E.Drop v k) off = refl
  other-taken (E.Raise v) off = refl
  other-taken (E.Fail v p) off = refl
  other-taken (E.Secure v) off = refl

  -- an event of another worker leaves what the worker holds
  one-each : (e : Event) → ¬ (worker_of e ≡ w) → Each (e ∷ []) (λ k x. ¬ (worker_of x ≡ w))
  one-each e other zero x at = subst (λ y. ¬ (worker_of y ≡ w)) (some_injective e x at) other
  one-each e other (suc k) x at = none_is_some x at

  held-then : (m : Machine) (e : Event) → ¬ (worker_of e ≡ w) → held_by (happens m e).jobs w ≡ held_by m.jobs w
  held-then m e other = run-held m (e ∷ []) w (one-each e other)

  event-last : (sys : System) (limits : Limits) (m : Machine) (e : Event) (last : Option Job) → IsLegal sys limits m e → IsLast m.jobs last → IsLast (happens m e).jobs (option_or (job_taken w e) last)
  event-last sys limits m e last legal h = by (nat_eq (worker_of e) w) refl
    where
      by : (b : Bool) → nat_eq (worker_of e) w ≡ b → IsLast (happens m e).jobs (option_or (job_taken w e) last)
      by true is = own-last sys limits m e last (eqb-true (worker_of e) w is) legal h
      by false is =
          subst (λ o. IsLast (happens m e).jobs (option_or o last)) (sym (other-taken e is))
          (λ g held. h g (sym (held-then m e (λ same. true≢false (sym (eq-eqb (worker_of e) w same) ∙ is))) ∙ held))

  run-last : (sys : System) (limits : Limits) (m : Machine) (es : List Event) (last : Option Job) → AreLegal sys limits m es → IsLast m.jobs last → IsLast (run m es).jobs (last_job w last es)
  run-last sys limits m [] last legal h = h
  run-last sys limits m (e ∷ es) last legal h = run-last sys limits (happens m e) es (option_or (job_taken w e) last) legal.1 (event-last sys limits m e last legal.0 h)

  pub last-held : (sys : System) (limits : Limits) (history : List Event) (g : Given) → Legal sys limits history → held_by (replay history).jobs w ≡ Some g → last_job w None history ≡ Some (job_of g)
  last-held sys limits history g legal held = run-last sys limits start history None legal (λ g e. none_is_some g e) g held

  pub last-append : (xs ys : List Event) (last : Option Job) → last_job w last (xs ++ ys) ≡ last_job w (last_job w last xs) ys
  last-append [] ys last = refl
  last-append (x ∷ xs) ys last = last-append xs ys (option_or (job_taken w x) last)
