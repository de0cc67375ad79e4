-- A seat that takes a job is given a brief that can be solved.
use Rattle.std.proofs.Common.{◌≡◌, ℕ, ◌≤◌, ◌<◌, ◌^◌, Bool, true, false, cond, nat_eq, find, List, [], ◌∷◌, ◌++◌, Option, None, Some, refl, sym, ap, subst, ◌∙◌, arith, eq-eqb}
use Rattle.std.specs.Prelude.{option_map}
use Rattle.up_claims.specs.Inferring.{CanInfer}
use Rattle.up_machine.specs.declared.brief.Brief.{Brief}
use Rattle.up_machine.specs.declared.event.Event.{Event}
use Rattle.up_machine.specs.declared.event.Event.TheVariants as E
use Rattle.up_machine.specs.declared.job.Job.{Job}
use Rattle.up_machine.specs.declared.job.Job.TheVariants as J
use Rattle.up_machine.specs.declared.job.Task.TheVariants as T
use Rattle.up_machine.specs.Due.{IsDue}
use Rattle.up_machine.specs.Finding.{HoldsJob}
use Rattle.up_machine.specs.Legal.{Legal, MayTake}
use Rattle.up_machine.specs.Machine.{Given, Held, Machine, held_by}
use Rattle.up_machine.specs.Ranges.{AreInRange}
use Rattle.up_machine.specs.Replay.{given_work, given_push, given_trace, given_for, jobs_after}
use Rattle.up_machine.specs.Sound.{IsFrameSound}
use Rattle.up_machine.proofs.Dues.{due_work, due_push, due_trace}
use Rattle.up_machine.proofs.Fit.{given_fit, history_fit}
use Rattle.up_machine.proofs.FrameEvents.{history_sound}
use Rattle.up_machine.proofs.Histories.{legal-first, replay-push}
use Rattle.up_machine.proofs.Lists.{none_is_some, Each-nil}
use Rattle.up_jobs.specs.Solving.{IsInRange}
use Rattle.up_jobs.proofs.Givens.{can-solve, given-frames}
use Rattle.up_core.specs.Briefing.{IsBriefHeld}
use Rattle.up_core.specs.Taking.{HasOnlyTakesSince, IsTakeOfOther}
use Rattle.up_core.specs.View.{CoreView, HasVariablesForJob, now, with_event}
use Rattle.up_seats.specs.Seats.{IsBriefed}
use Rattle.up_seats.proofs.Frontiers.{frontier_low}

held-last : (w : ℕ) (g : Given) (js : List Held) → held_by js w ≡ None → held_by (js ++ record { worker = w; given = g } ∷ []) w ≡ Some g
held-last w g [] none = ap (λ b. option_map (λ (x : Held). x.given) (cond b (Some (let new : Held = record { worker = w; given = g } in new)) None)) (eq-eqb w w refl)
held-last w g (h ∷ js) none = step (nat_eq h.worker w) (held-last w g js) none
  where
    found : List Held → Option Held
    found xs = find (λ (x : Held). nat_eq x.worker w) xs

    step : (b : Bool) → (held_by js w ≡ None → held_by (js ++ record { worker = w; given = g } ∷ []) w ≡ Some g) →
        option_map (λ (x : Held). x.given) (cond b (Some h) (find (λ (x : Held). nat_eq x.worker w) js)) ≡ None →
        option_map (λ (x : Held). x.given) (cond b (Some h) (find (λ (x : Held). nat_eq x.worker w) (js ++ record { worker = w; given = g } ∷ []))) ≡ Some g
    step true rest e = none_is_some h.given (sym e)
    step false rest e = rest e

-- what is given to a seat that takes the job, and is in range
record IsGiven (m : Machine) (job : Job) : Type 0 where
  given : Given
  is : given_for m job ≡ Some given
  range : IsInRange given

module _ (c : CoreView) (narrow : c.variables < 2 ^ 32) (ranges : AreInRange c.limits) (legal : Legal c.sys c.limits c.history) where
  sound : IsFrameSound c.sys (now c)
  sound = history_sound c.sys c.limits c.history legal

  frontier : (now c).frontier ≤ c.limits.frames
  frontier = frontier_low c.sys c.limits c.history ranges.frames.low legal

  given_now : (job : Job) → IsDue c.sys c.limits (now c) (T.Job job) → HasVariablesForJob c job → IsGiven (now c) job
  given_now (J.Work k) due variables =
      let next = due_work c.sys c.limits (now c) k due in
      let few = variables next.obligation next.there in
      record {
        given = given_work (now c).clauses k next.obligation;
        is = ap (option_map (given_work (now c).clauses k)) next.there;
        range = ((sound.levels k next.obligation next.there).ready next.ready, omega (arith, few, narrow));
      }
  given_now J.Look due variables = record { given = _; is = refl; range = tt }
  given_now (J.Push k) due variables =
      let next = due_push c.sys c.limits (now c) k due in
      record { given = given_push (now c).clauses k next.found; is = ap (option_map (given_push (now c).clauses k)) next.there; range = tt }
  given_now (J.Trace k) due variables =
      let next = due_trace c.sys c.limits (now c) k due in
      let high = ranges.frames.high in
      record {
        given = given_trace (now c).frontier k next.found;
        is = ap (option_map (given_trace (now c).frontier k)) next.there;
        range = omega (arith, frontier, high);
      }

  module _ (seat : ℕ) (job : Job) (variables : HasVariablesForJob c job) (may : MayTake c.sys c.limits (now c) seat job) where
    abbrev take : Event
    take = E.Take seat job

    abbrev after : CoreView
    after = with_event c take

    given_is : IsGiven (now c) job
    given_is = given_now job may.due variables

    held : held_by (now after).jobs seat ≡ Some given_is.given
    held =
        ap (λ (m : Machine). held_by m.jobs seat) (replay-push c.history take)
        ∙ ap (λ g. held_by (jobs_after take g (now c).jobs) seat) given_is.is
        ∙ held-last seat given_is.given (now c).jobs may.free

    only_take : HasOnlyTakesSince after.history seat
    only_take = record { before = c.history; job = job; takes = []; is = refl; others = Each-nil (λ k e. IsTakeOfOther seat e) }

    briefed : (brief : Brief) → Legal c.sys c.limits after.history → CanInfer c.sys c.order → IsBriefHeld after seat brief → IsBriefed after seat brief
    briefed brief legal_after infer told =
        let g = given_is.given in
        let same = told g held in
        let fit = given_fit c.sys infer.system (now after) (history_fit c.sys c.limits after.history infer.system legal_after) seat g held in
        record {
          given = g;
          held = held;
          brief_is = record { same = same; frame = given-frames after.history seat g held };
          solvable = can-solve c.sys c.order g brief infer fit given_is.range same;
        }

-- of the machine in code after the take
module _ (c d : CoreView) (seat : ℕ) (job : Job) (made : d ≡ with_event c (E.Take seat job)) (narrow : c.variables < 2 ^ 32)
    (variables : HasVariablesForJob c job) (may : MayTake c.sys c.limits (now c) seat job) (ranges : AreInRange d.limits) (legal : Legal d.sys d.limits d.history) where
  ranges_before : AreInRange c.limits
  ranges_before = subst (λ (x : CoreView). AreInRange x.limits) made ranges

  legal_after : Legal c.sys c.limits (with_event c (E.Take seat job)).history
  legal_after = subst (λ (x : CoreView). Legal x.sys x.limits x.history) made legal

  legal_before : Legal c.sys c.limits c.history
  legal_before = legal-first c.sys c.limits _ c.history (E.Take seat job ∷ []) legal_after

  pub holds_job : HoldsJob (now d) seat
  holds_job =
      subst (λ (x : CoreView). HoldsJob (now x) seat) (sym made)
      (record { given = (given_is c narrow ranges_before legal_before seat job variables may).given; held = held c narrow ranges_before legal_before seat job variables may })

  pub since_take : HasOnlyTakesSince d.history seat
  since_take = subst (λ (x : CoreView). HasOnlyTakesSince x.history seat) (sym made) (only_take c narrow ranges_before legal_before seat job variables may)

  pub is_briefed : CanInfer d.sys d.order → (brief : Brief) → IsBriefHeld d seat brief → IsBriefed d seat brief
  is_briefed infer brief told =
      let x = with_event c (E.Take seat job) in
      let infer_before : CanInfer c.sys c.order = subst (λ (y : CoreView). CanInfer y.sys y.order) made infer in
      let told_at : IsBriefHeld x seat brief = subst (λ (y : CoreView). IsBriefHeld y seat brief) made told in
      subst (λ (y : CoreView). IsBriefed y seat brief) (sym made)
      (briefed c narrow ranges_before legal_before seat job variables may brief legal_after infer_before told_at)
