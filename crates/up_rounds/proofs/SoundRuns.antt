-- What follows for runs by rounds.
use Rattle.std.proofs.Common.{◌≡◌, List, [], ◌∷◌}
use Rattle.fo_core.specs.declared.order.Order.{Order}
use Rattle.fo_core.specs.declared.system.System.{System}
use Rattle.fo_core.specs.Sorted.{IsSystem}
use Rattle.up_core.specs.View.{CoreView}
use Rattle.up_machine.specs.declared.event.Event.{Event}
use Rattle.up_machine.specs.declared.limits.Limits.{Limits}
use Rattle.up_machine.specs.Rounds.{IsClosed, Rounds}
use Rattle.up_seats.specs.Sound.{IsWhole, HasSoundFrames, TellsTruth, IsSoundRun}
use Rattle.up_seats.proofs.SoundHistories.{whole_history, sound_frames, tells_truth}
use Rattle.up_rounds.specs.Courses.{AreAlike, IsCourse, IsRun}
use Rattle.up_rounds.proofs.AlikeLimits.{alike_one}

module _ (sys : System) (limits : Limits) where
  closed : (history : List Event) → Rounds sys limits history → IsClosed sys limits history
  closed [] h = absurd h
  closed (e ∷ es) h = h.2

  whole_course : (history : List Event) → IsCourse sys limits history → IsWhole sys limits history
  whole_course history course =
      let over = closed history course.rounds in
      whole_history sys limits history over.0 course.legal over.1

module _ (sys : System) (order : Order) (limits : Limits) (c : CoreView) where
  pub run_whole : IsRun sys order limits c → IsWhole sys limits c.history
  run_whole r = whole_course sys limits c.history r.course

  pub run_frames : IsSystem sys → IsRun sys order limits c → HasSoundFrames sys c.history
  run_frames good r = sound_frames sys limits c.history good r.course.legal

  pub run_tells : IsSystem sys → IsRun sys order limits c → TellsTruth sys c.history
  run_tells good r = tells_truth sys limits c.history good r.course.legal

  pub run_sound : IsSystem sys → IsRun sys order limits c → IsSoundRun sys limits c.history
  run_sound good r = record { whole = run_whole r; frames = run_frames good r; tells = run_tells good r }

pub runs_same : (sys : System) (first second : Order) (a b : Limits) (c d : CoreView) → IsSystem sys → AreAlike a b → IsRun sys first a c → IsRun sys second b d → c.history ≡ d.history
runs_same sys first second a b c d good alike r s = alike_one sys a b c.history d.history good alike r.course s.course
