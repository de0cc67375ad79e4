-- What a seat reports of a trace.
use Rattle.std.proofs.Common.{ℕ, refl}
use Rattle.fo_core.specs.declared.world.World.{World}
use Rattle.fo_min.specs.declared.found.Excess.{Excess}
use Rattle.up_claims.specs.declared.kind.Kind.{Kind}
use Rattle.up_machine.specs.declared.brief.Brief.{Brief}
use Rattle.up_machine.specs.declared.end.End.TheVariants as N
use Rattle.up_machine.specs.declared.event.Event.TheVariants as E
use Rattle.up_machine.specs.Machine.{Given, Work, Look, Push, Trace}
use Rattle.up_unroll.specs.declared.unrolling.Unrolled.{Unrolled}
use Rattle.up_unroll.specs.declared.unrolling.Unrolled.TheVariants as U
use Rattle.up_jobs.specs.declared.solved.Solved.TheVariants as S
use Rattle.up_jobs.specs.Reporting.{HasAnswer}
use Rattle.up_jobs.specs.Solving.{IsAnswer}
use Rattle.up_jobs.proofs.Events.{may-close-unsafe, may-close-no-universal, trace-over}
use Rattle.up_core.specs.View.{CoreView, now}
use Rattle.up_seats.specs.Telling.{HasAnswered, IsToTell}
use Rattle.up_seats.proofs.Costly.{to-tell-free, to-end-over}

module _ (c : CoreView) (seat k steps : ℕ) (brief : Brief) where
  abbrev trace : Given
  trace = Trace k steps

  abbrev Found : Unrolled → Type 0
  Found a = HasAnswer c.sys c.limits (now c) seat trace brief (S.Trace a)

  answer : (a : Unrolled) → Found a → IsAnswer c.sys c.limits.weight trace (S.Trace a)
  answer a h = h.answer trace h.brief_is

  tells-run : (run : World) → Found (U.Run run) → IsToTell c seat (E.Close seat (N.Unsafe run))
  tells-run run h =
      to-tell-free c seat (E.Close seat (N.Unsafe run)) trace h.held (answer (U.Run run) h).1 refl refl
      (may-close-unsafe c.sys c.limits (now c) brief seat k steps run h) tt

  tells-none : Found U.NoRun → IsToTell c seat (E.Close seat N.NoUniversal)
  tells-none h =
      to-tell-free c seat (E.Close seat N.NoUniversal) trace h.held (answer U.NoRun h).1 refl refl
      (may-close-no-universal c.sys c.limits (now c) brief seat k steps h) tt

  tells-over : (what : Kind) (x : Excess) → Found (U.Over what x) → IsToTell c seat (E.Close seat (N.Over what x))
  tells-over what x h = to-end-over c seat what x (trace-over c.sys c.limits (now c) brief seat k steps what x h)

-- the same of whatever the seat holds

module _ (c : CoreView) (seat : ℕ) where
  of-trace : (a : Unrolled) (P : Type 0) → HasAnswered c seat (S.Trace a) →
      ((k steps : ℕ) (brief : Brief) → HasAnswer c.sys c.limits (now c) seat (Trace k steps) brief (S.Trace a) → P) → P
  of-trace a P (brief, (Trace k steps, h)) f = f k steps brief h
  of-trace a P (brief, (Work k level below world, h)) f = absurd (h.answer (Work k level below world) h.brief_is).0
  of-trace a P (brief, (Look level frame avoid done, h)) f = absurd (h.answer (Look level frame avoid done) h.brief_is).0
  of-trace a P (brief, (Push k level frame cube, h)) f = absurd (h.answer (Push k level frame cube) h.brief_is).0

  pub to-end-run : (run : World) → HasAnswered c seat (S.Trace (U.Run run)) → IsToTell c seat (E.Close seat (N.Unsafe run))
  to-end-run run h = of-trace (U.Run run) (IsToTell c seat (E.Close seat (N.Unsafe run))) h (λ k steps brief found. tells-run c seat k steps brief run found)

  pub to-end-none : HasAnswered c seat (S.Trace U.NoRun) → IsToTell c seat (E.Close seat N.NoUniversal)
  to-end-none h = of-trace U.NoRun (IsToTell c seat (E.Close seat N.NoUniversal)) h (λ k steps brief found. tells-none c seat k steps brief found)

  pub to-end-trace : (what : Kind) (x : Excess) → HasAnswered c seat (S.Trace (U.Over what x)) → IsToTell c seat (E.Close seat (N.Over what x))
  to-end-trace what x h = of-trace (U.Over what x) (IsToTell c seat (E.Close seat (N.Over what x))) h (λ k steps brief found. tells-over c seat k steps brief what x found)
