-- The laws of frames that rest on what is so after every legal history.
use Rattle.std.proofs.Common.{◌≡◌, ℕ, zero, suc, ◌+◌, ◌-◌, ◌<◌, ◌≤◌, List, Some, length, slice_get, sym, subst, arith}
use Rattle.fo_core.specs.declared.system.System.{System}
use Rattle.fo_core.specs.declared.world.World.{World}
use Rattle.fo_core.specs.Runs.{Reach, alone}
use Rattle.fo_core.specs.Sorted.{IsSystem}
use Rattle.fo_core.specs.Tables.{Fits}
use Rattle.fo_core.proofs.AgreeLemmas.{alone-agrees}
use Rattle.up_diagram.specs.Cubes.{Meets}
use Rattle.up_machine.specs.declared.limits.Limits.{Limits}
use Rattle.up_machine.specs.declared.event.Event.{Event}
use Rattle.up_machine.specs.Machine.{Clause, frame, IsIn}
use Rattle.up_machine.specs.Replay.{replay}
use Rattle.up_machine.specs.Legal.{Legal}
use Rattle.up_machine.proofs.Frames.{avoids-each, each-avoids}
use Rattle.up_machine.proofs.FrameEvents.{history_sound}
use Rattle.up_machine.proofs.Reach as reach
use Rattle.up_machine.proofs.SameStates.{frame_same}

-- what is in a frame meets the cube of no clause of its level or a higher one, live or gone
pub gone_too : (sys : System) (limits : Limits) (history : List Event) (w : World) (c i k : ℕ) (clause : Clause) → Legal sys limits history → 1 ≤ i → IsIn sys (replay history) i w c → slice_get (replay history).clauses k ≡ Some clause → i ≤ clause.level → ¬ Meets sys.sig w c clause.cube
gone_too sys limits history w c zero k clause legal low h there le = absurd (omega (arith, low))
gone_too sys limits history w c (suc i) k clause legal low h there le =
    let cs = (replay history).clauses in
    (history_sound sys limits history legal).live_or_gone k clause there w c
    (each-avoids sys cs clause.level w c (λ j x e live ge. avoids-each sys cs (suc i) w c h.1 j x e live (omega (arith, le, ge))))

pub rises : (sys : System) (limits : Limits) (history : List Event) (i : ℕ) (w : World) (c : ℕ) → Legal sys limits history → Fits sys.sig w → c < length w.copies → IsIn sys (replay history) i w c → IsIn sys (replay history) (i + 1) w c
rises sys limits history i w c legal fits lt h =
    let m = replay history in
    let next : suc i ≡ i + 1 = omega arith in
    subst (λ j. IsIn sys m j w c) next (reach.rises sys m.frontier m.clauses (history_sound sys limits history legal).each_clause i w c fits lt h)

-- a state that is reached within i steps is in frame i
pub reached : (sys : System) (limits : Limits) (history : List Event) (i : ℕ) (s : World) → IsSystem sys → Legal sys limits history → Reach sys i s → IsIn sys (replay history) i s 0
reached sys limits history i s good legal r =
    let m = replay history in
    let last = length r.run.copies - 1 in
    let some = r.is_run.fits.some_copy in
    let here = reach.reached_in sys m.frontier m.clauses (history_sound sys limits history legal).each_clause r.run r.is_run last (omega (arith, some)) i (omega (arith, some, r.short)) in
    subst (λ w. IsIn sys m i w 0) (sym r.last) (frame_same sys good r.run last (alone r.run last) 0 (alone-agrees r.run last) (frame m.clauses i) here)
