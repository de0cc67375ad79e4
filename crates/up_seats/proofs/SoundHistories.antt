-- What follows for legal histories, in whichever order their events came.
use Rattle.std.proofs.Common.{◌≡◌, List, [], ◌∷◌, None, Some, refl, sym, ap, subst, ◌∙◌}
use Rattle.fo_core.specs.declared.system.System.{System}
use Rattle.fo_core.specs.Sorted.{IsSystem}
use Rattle.up_machine.specs.declared.end.End.{End}
use Rattle.up_machine.specs.declared.event.Event.{Event}
use Rattle.up_machine.specs.declared.event.Event.TheVariants as E
use Rattle.up_machine.specs.declared.limits.Limits.{Limits}
use Rattle.up_machine.specs.Legal.{AreLegal, Legal}
use Rattle.up_machine.specs.Machine.{Machine, start, IsIn}
use Rattle.up_machine.specs.Replay.{happens, run, replay}
use Rattle.up_machine.proofs.FrameLaws.{reached, rises}
use Rattle.up_machine.proofs.Histories.{legal-first, only_stronger}
use Rattle.up_machine.proofs.Lists.{none_is_some}
use Rattle.up_machine.proofs.ToldHolds.{told_holds}
use Rattle.up_seats.specs.Sound.{EndsByClose, IsWhole, IsBegin, HasSoundFrames, TellsTruth, IsSoundRun}

module _ (sys : System) (limits : Limits) where
  -- where there is an end, the last event made it
  last_closes : (m : Machine) (es : List Event) (x : End) → m.ending ≡ None → AreLegal sys limits m es → (run m es).ending ≡ Some x → EndsByClose es
  last_closes m [] x runs_on legal over = none_is_some x (sym runs_on ∙ over)
  last_closes m (E.Close w end ∷ []) x runs_on legal over = record { before = []; worker = w; end = end; closes = refl }
  last_closes m (E.Close w end ∷ (e ∷ es)) x runs_on legal over = none_is_some end (sym legal.1.0.not_ended)
  last_closes m (e ∷ es) x runs_on legal over =
      let r = last_closes (happens m e) es x runs_on legal.1 over in
      record { before = e ∷ r.before; worker = r.worker; end = r.end; closes = ap (λ rest. e ∷ rest) r.closes }

  pub whole_history : (history : List Event) (x : End) → Legal sys limits history → (replay history).ending ≡ Some x → IsWhole sys limits history
  whole_history history x legal over = record { legal = legal; ends = last_closes start history x refl legal over }

  early : (events history : List Event) → IsBegin events history → Legal sys limits history → Legal sys limits events
  early events history begin legal = legal-first sys limits start events begin.rest (subst (Legal sys limits) begin.is legal)

  pub sound_frames : (history : List Event) → IsSystem sys → Legal sys limits history → HasSoundFrames sys history
  sound_frames history good legal = record {
    hold = λ events begin i s. reached sys limits events i s good (early events history begin legal);
    rise = λ events begin i w c. rises sys limits events i w c (early events history begin legal);
    stronger = λ earlier later begin first i w c inside.
        only_stronger sys limits earlier first.rest i w c
        (subst (Legal sys limits) first.is (early later history begin legal))
        (subst (λ events. IsIn sys (replay events) i w c) first.is inside);
  }

  pub tells_truth : (history : List Event) → IsSystem sys → Legal sys limits history → TellsTruth sys history
  tells_truth history good legal verdict told = told_holds sys limits history verdict good legal told

pub closed_sound : (sys : System) (limits : Limits) (history : List Event) (x : End) → IsSystem sys → Legal sys limits history → (replay history).ending ≡ Some x → IsSoundRun sys limits history
closed_sound sys limits history x good legal over = record {
  whole = whole_history sys limits history x legal over;
  frames = sound_frames sys limits history good legal;
  tells = tells_truth sys limits history good legal;
}
