-- Failed pushes stay steps into their clauses' cubes.
use Rattle.std.proofs.Common.{◌≡◌, ℕ, inl, inr, List, Option, Some, slice_get, refl, sym, subst, arith}
use Rattle.fo_core.specs.declared.system.System.{System}
use Rattle.fo_core.specs.declared.world.World.{World}
use Rattle.fo_core.specs.Sorted.{IsSystem}
use Rattle.up_diagram.specs.Cubes.{Meets}
use Rattle.up_machine.specs.declared.limits.Limits.{Limits}
use Rattle.up_machine.specs.declared.event.Event.{Event}
use Rattle.up_machine.specs.declared.event.Event.TheVariants as E
use Rattle.up_machine.specs.Machine.{Clause, FailedPush, Given, Push, Machine, start}
use Rattle.up_machine.specs.Replay.{failed_after, job_of_event, happens, replay}
use Rattle.up_machine.specs.Legal.{MayFail, IsLegal, Legal}
use Rattle.up_machine.specs.Sound.{Each, IsFit, IsFrameSound, IsSoundFail, AreSoundFails}
use Rattle.up_machine.proofs.Lists.{Each-nil, get-push, IsPushed}
use Rattle.up_machine.proofs.Frames.{Remain, clauses_remain}
use Rattle.up_machine.proofs.FrameEvents.{given_sound, event_sound, start_sound}
use Rattle.up_machine.proofs.Fit.{event_fit, start_fit}
use Rattle.up_machine.proofs.Origins.{found_fail}
use Rattle.up_machine.proofs.Histories.{along}

abbrev pub IsFail : Event → Type 0
IsFail (E.Fail w p) = Unit {0}
IsFail _ = ⊥

-- no other event leaves a failed push
pub failed_same : (e : Event) (job : Option Given) (fs : List FailedPush) → ¬ IsFail e → failed_after e job fs ≡ fs
failed_same (E.Fail w p) job fs plain = absurd (plain tt)
failed_same e job fs plain = refl

pub by_fail : (P : Event → Type 0) → ((w : ℕ) (p : World) → P (E.Fail w p)) → ((e : Event) → ¬ IsFail e → P e) → (e : Event) → P e
by_fail P r o (E.Fail w p) = r w p
by_fail P r o e = o e (λ h. h)

module _ (sys : System) where
  fail_kept : (cs ds : List Clause) (f : FailedPush) → Remain cs ds → IsSoundFail sys cs f → IsSoundFail sys ds f
  fail_kept cs ds f g h =
      let r = g f.clause h.clause h.there in
      record {
        clause = r.now;
        there = r.there;
        low = omega (arith, h.low, r.level);
        fits = h.fits;
        copies = h.copies;
        step = h.step;
        meets = subst (Meets sys.sig f.step 1) (sym r.cube) h.meets;
      }

  module _ (good : IsSystem sys) (m : Machine) (sound : IsFrameSound sys m) (fit : IsFit sys m) (h : AreSoundFails sys m) where
    -- a new one is what the search found
    new_fail : (w : ℕ) (p : World) → MayFail sys m w p → Each (happens m (E.Fail w p)).failed (λ k f. IsSoundFail sys m.clauses f)
    new_fail w p may =
        let push = may.push in
        subst (λ j. Each (failed_after (E.Fail w p) j m.failed) (λ k f. IsSoundFail sys m.clauses f)) (sym push.held)
        (λ i f there. by_place i f (get-push m.failed _ i f there))
      where
        found : IsSoundFail sys m.clauses (record { clause = may.push.clause; level = may.push.level; step = p })
        found =
            let push = may.push in
            let given = given_sound sys m sound w (Push push.clause push.level push.frame push.cube) push.held in
            let s = found_fail sys good m fit w push p may.found in
            record {
              clause = given.clause;
              there = given.there;
              low = omega (arith, given.level_is);
              fits = s.fits;
              copies = s.copies;
              step = s.step;
              meets = subst (Meets sys.sig p 1) (sym given.cube_is) s.meets;
            }

        by_place : (i : ℕ) (f : FailedPush) → IsPushed m.failed (record { clause = may.push.clause; level = may.push.level; step = p }) i f → IsSoundFail sys m.clauses f
        by_place i f (inl old) = h i f old
        by_place i f (inr is) = subst (IsSoundFail sys m.clauses) is.1 found

    pub event_fails : (limits : Limits) (e : Event) → IsLegal sys limits m e → AreSoundFails sys (happens m e)
    event_fails limits e =
        by_fail (λ e. IsLegal sys limits m e → AreSoundFails sys (happens m e)) (λ w p legal. new_fail w p legal.allowed)
        (λ e plain legal k f there.
        fail_kept m.clauses (happens m e).clauses f (clauses_remain e (job_of_event m e) m.clauses)
        (h k f (subst (λ fs. slice_get fs k ≡ Some f) (failed_same e (job_of_event m e) m.failed plain) there))) e

pub record IsFailed (sys : System) (m : Machine) : Type 0 where
  pub sound : IsFrameSound sys m
  pub fit : IsFit sys m
  pub fails : AreSoundFails sys m

pub history_failed : (sys : System) (limits : Limits) (history : List Event) → IsSystem sys → Legal sys limits history → IsFailed sys (replay history)
history_failed sys limits history good legal =
    along sys limits (IsFailed sys)
    (λ m e h legal. record {
      sound = event_sound sys limits m h.sound e legal;
      fit = event_fit sys good m h.fit limits e legal;
      fails = event_fails sys good m h.sound h.fit h.fails limits e legal;
    }) start history (record { sound = start_sound sys limits; fit = start_fit sys; fails = Each-nil _ }) legal

pub history_fails : (sys : System) (limits : Limits) (history : List Event) → IsSystem sys → Legal sys limits history → AreSoundFails sys (replay history)
history_fails sys limits history good legal = (history_failed sys limits history good legal).fails
