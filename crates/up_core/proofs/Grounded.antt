-- The frame below an obligation of level 1 is the initial states.
use Rattle.std.proofs.Common.{◌≡◌, ℕ, zero, suc, ◌-◌, List, Option, None, Some, slice_get, refl, subst, arith}
use Rattle.std.specs.Prelude.{option_map, ⊤}
use Rattle.fo_core.specs.declared.system.System.{System}
use Rattle.up_diagram.specs.declared.cube.Cube.{Cube}
use Rattle.up_claims.specs.Frames.{frame_at}
use Rattle.up_machine.specs.declared.event.Event.{Event}
use Rattle.up_machine.specs.declared.event.Event.TheVariants as E
use Rattle.up_machine.specs.declared.job.Job.{Job}
use Rattle.up_machine.specs.declared.job.Job.TheVariants as J
use Rattle.up_machine.specs.declared.limits.Limits.{Limits}
use Rattle.up_machine.specs.Legal.{Legal}
use Rattle.up_machine.specs.Machine.{Clause, Obligation, Given, Work, Look, Push, Trace, Machine, start, cubes_from, held_by}
use Rattle.up_machine.specs.Replay.{given_for, given_work, given_push, given_trace, job_of_event, replay}
use Rattle.up_machine.specs.Sound.{Each}
use Rattle.up_machine.proofs.Histories.{along}
use Rattle.up_machine.proofs.Holding.{held-at}
use Rattle.up_machine.proofs.Lists.{Each-nil}
use Rattle.up_core.proofs.Roomy.{IsGoodTake, each-job}

abbrev pub IsGrounded : Given → Type 0
IsGrounded (Work k level below world) = level - 1 ≡ 0 → below ≡ None
IsGrounded (Look level cubes avoid done) = ⊤
IsGrounded (Push k level cubes cube) = ⊤
IsGrounded (Trace k steps) = ⊤

ground : (i : ℕ) (cubes : List Cube) → i ≡ 0 → frame_at i cubes ≡ None
ground zero cubes e = refl
ground (suc i) cubes e = absurd (omega (arith, e))

module _ (m : Machine) (w : ℕ) where
  abbrev IsGood : (j : Job) → Option Given → Type 0
  IsGood j g = IsGoodTake IsGrounded (E.Take w j) g

  work_good : (k : ℕ) (o : Option Obligation) → IsGood (J.Work k) (option_map (given_work m.clauses k) o)
  work_good k None = tt
  work_good k (Some o) = λ e. ground (o.level - 1) (cubes_from m.clauses (o.level - 1)) e

  push_good : (k : ℕ) (c : Option Clause) → IsGood (J.Push k) (option_map (given_push m.clauses k) c)
  push_good k None = tt
  push_good k (Some c) = tt

  trace_good : (k : ℕ) (o : Option Obligation) → IsGood (J.Trace k) (option_map (given_trace m.frontier k) o)
  trace_good k None = tt
  trace_good k (Some o) = tt

  take_good : (j : Job) → IsGood j (given_for m j)
  take_good (J.Work k) = work_good k (slice_get m.obligations k)
  take_good J.Look = tt
  take_good (J.Push k) = push_good k (slice_get m.clauses k)
  take_good (J.Trace k) = trace_good k (slice_get m.obligations k)

event_good : (m : Machine) (e : Event) → IsGoodTake IsGrounded e (job_of_event m e)
event_good m (E.Take w j) = take_good m w j
event_good m e = tt

abbrev AreGrounded : Machine → Type 0
AreGrounded m = Each m.jobs (λ k h. IsGrounded h.given)

pub grounded : (sys : System) (limits : Limits) (history : List Event) → Legal sys limits history → (w : ℕ) (g : Given) → held_by (replay history).jobs w ≡ Some g → IsGrounded g
grounded sys limits history legal w g held =
    let all = along sys limits AreGrounded (λ m e h _. each-job IsGrounded e (job_of_event m e) m.jobs (event_good m e) h) start history (Each-nil _) legal in
    let at = held-at (replay history).jobs w g held in
    subst IsGrounded at.given (all at.place at.held at.there)
