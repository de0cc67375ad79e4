-- What a seat reports of a push.
use Rattle.std.proofs.Common.{ℕ, List, Some, refl, sym, subst}
use Rattle.std.specs.Prelude.{⊤}
use Rattle.fo_core.specs.declared.system.System.{System}
use Rattle.fo_core.specs.declared.world.World.{World}
use Rattle.fo_min.specs.declared.found.Excess.{Excess}
use Rattle.up_diagram.specs.declared.cube.Cube.{Cube}
use Rattle.up_claims.specs.declared.kind.Kind.{Kind}
use Rattle.up_machine.specs.declared.brief.Brief.{Brief}
use Rattle.up_machine.specs.declared.end.End.TheVariants as N
use Rattle.up_machine.specs.declared.event.Event.TheVariants as E
use Rattle.up_machine.specs.declared.event.Why.TheVariants as Y
use Rattle.up_machine.specs.declared.not_now.NotNow.TheVariants as W
use Rattle.up_machine.specs.Finding.{HoldsPush}
use Rattle.up_machine.specs.Legal.{IsLeastStep, of_fail}
use Rattle.up_machine.specs.Machine.{Given, Work, Look, Push, Trace}
use Rattle.up_push.specs.declared.pushing.Pushing.{Pushing}
use Rattle.up_push.specs.declared.pushing.Pushing.TheVariants as P
use Rattle.up_jobs.specs.declared.solved.Solved.TheVariants as S
use Rattle.up_jobs.specs.Reporting.{HasAnswer}
use Rattle.up_jobs.specs.Solving.{IsAnswer, NoneOver}
use Rattle.up_jobs.proofs.Events.{may-raise, push-over}
use Rattle.up_core.specs.Known.{IsNotNow}
use Rattle.up_core.specs.View.{CoreView, now}
use Rattle.up_seats.specs.Telling.{CostsStep, HasAnswered, IsToTell}
use Rattle.up_seats.proofs.Costly.{same-held, not-look, costs-step, to-tell, to-end-over}

-- that the step out of the clause's frame was found
abbrev FoundFailOf : System → World → Given → Type 0
FoundFailOf sys p (Push k level frame cube) = IsLeastStep sys (Some frame) cube p
FoundFailOf sys p given = ⊤

module _ (c : CoreView) (seat k level : ℕ) (frame : List Cube) (cube : Cube) (brief : Brief) where
  abbrev push : Given
  push = Push k level frame cube

  abbrev Found : Pushing → Type 0
  Found a = HasAnswer c.sys c.limits (now c) seat push brief (S.Push a)

  answer : (a : Pushing) → Found a → IsAnswer c.sys c.limits.weight push (S.Push a)
  answer a h = h.answer push h.brief_is

  push-costs : (a : Pushing) → Found a → NoneOver c.sys c.limits.weight push → CostsStep c seat
  push-costs a h none = costs-step c seat push h.held none (λ trace. trace) (λ may. not-look c.sys c.limits (now c) seat push h.held (λ look. look) may.look)

  tells-raise : Found P.Holds → IsToTell c seat (E.Raise seat)
  tells-raise h = to-tell c seat (E.Raise seat) (push-costs P.Holds h (answer P.Holds h).1) refl (may-raise c.sys c.limits (now c) brief seat k level frame cube h) tt

  module _ (p : World) (h : Found (P.Fails p)) where
    fail-costs : CostsStep c seat
    fail-costs = push-costs (P.Fails p) h (answer (P.Fails p) h).1

    tells-fail : IsToTell c seat (E.Fail seat p)
    tells-fail =
        let holds : HoldsPush (now c) seat = record { clause = k; level = level; frame = frame; cube = cube; held = h.held } in
        to-tell c seat (E.Fail seat p) fail-costs refl (record { push = holds; found = (answer (P.Fails p) h).0 }) tt

    tells-refuted : (n : ℕ) → IsNotNow c (E.Fail seat p) (W.Refuted n) → IsToTell c seat (E.Return seat (Y.Refuted p n))
    tells-refuted n refuted =
        let r = refuted.1 in
        let same = same-held c.sys c.limits (now c) seat push h.held seat (Push r.push.clause r.push.level r.push.frame r.push.cube) refl r.push.held in
        let found : IsLeastStep c.sys (Some r.push.frame) r.push.cube p = subst (FoundFailOf c.sys p) (sym same) (answer (P.Fails p) h).0 in
        to-tell c seat (E.Return seat (Y.Refuted p n)) fail-costs refl
        (of_fail (record { push = r.push; found = found; refuter = r.refuter })) (refuted.0.affordable refl)

  tells-over : (what : Kind) (x : Excess) → Found (P.Over what x) → IsToTell c seat (E.Close seat (N.Over what x))
  tells-over what x h = to-end-over c seat what x (push-over c.sys c.limits (now c) brief seat k level frame cube what x h)

-- the same of whatever the seat holds

module _ (c : CoreView) (seat : ℕ) where
  of-push : (a : Pushing) (Q : Type 0) → HasAnswered c seat (S.Push a) →
      ((k level : ℕ) (frame : List Cube) (cube : Cube) (brief : Brief) → HasAnswer c.sys c.limits (now c) seat (Push k level frame cube) brief (S.Push a) → Q) → Q
  of-push a Q (brief, (Push k level frame cube, h)) f = f k level frame cube brief h
  of-push a Q (brief, (Work k level below world, h)) f = absurd (h.answer (Work k level below world) h.brief_is).0
  of-push a Q (brief, (Look level frame avoid done, h)) f = absurd (h.answer (Look level frame avoid done) h.brief_is).0
  of-push a Q (brief, (Trace k steps, h)) f = absurd (h.answer (Trace k steps) h.brief_is).0

  pub to-raise : HasAnswered c seat (S.Push P.Holds) → IsToTell c seat (E.Raise seat)
  to-raise h = of-push P.Holds (IsToTell c seat (E.Raise seat)) h (λ k level frame cube brief found. tells-raise c seat k level frame cube brief found)

  pub to-fail : (p : World) → HasAnswered c seat (S.Push (P.Fails p)) → IsToTell c seat (E.Fail seat p)
  to-fail p h = of-push (P.Fails p) (IsToTell c seat (E.Fail seat p)) h (λ k level frame cube brief found. tells-fail c seat k level frame cube brief p found)

  pub to-refute-fail : (p : World) (n : ℕ) → HasAnswered c seat (S.Push (P.Fails p)) → IsNotNow c (E.Fail seat p) (W.Refuted n) → IsToTell c seat (E.Return seat (Y.Refuted p n))
  to-refute-fail p n h refuted = of-push (P.Fails p) (IsToTell c seat (E.Return seat (Y.Refuted p n))) h (λ k level frame cube brief found. tells-refuted c seat k level frame cube brief p found n refuted)

  pub to-end-push : (what : Kind) (x : Excess) → HasAnswered c seat (S.Push (P.Over what x)) → IsToTell c seat (E.Close seat (N.Over what x))
  to-end-push what x h = of-push (P.Over what x) (IsToTell c seat (E.Close seat (N.Over what x))) h (λ k level frame cube brief found. tells-over c seat k level frame cube brief what x found)
