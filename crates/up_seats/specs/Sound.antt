-- What follows for a run of the machine, of its history alone.
use Rattle.std.specs.Prelude.{◌≡◌, ℕ, ◌+◌, ◌<◌, List, [], ◌∷◌, ◌++◌, length}
use Rattle.fo_core.specs.declared.system.System.{System}
use Rattle.fo_core.specs.declared.world.World.{World}
use Rattle.fo_core.specs.Runs.{Reach}
use Rattle.fo_core.specs.Tables.{Fits}
use Rattle.up_claims.specs.declared.verdict.Verdict.{Verdict}
use Rattle.up_machine.specs.declared.end.End.{End}
use Rattle.up_machine.specs.declared.event.Event.{Event}
use Rattle.up_machine.specs.declared.event.Event.TheVariants as E
use Rattle.up_machine.specs.declared.limits.Limits.{Limits}
use Rattle.up_machine.specs.Legal.{Legal}
use Rattle.up_machine.specs.Machine.{IsIn}
use Rattle.up_machine.specs.Replay.{replay}
use Rattle.up_machine.specs.Told.{Told, HoldsShortest}

-- the last event is a Close
pub record EndsByClose (history : List Event) : Type 0 where
  pub before : List Event
  pub worker : ℕ
  pub end : End
  pub closes : history ≡ before ++ E.Close worker end ∷ []

-- each event was legal when it came, and the last one is a Close
pub record IsWhole (sys : System) (limits : Limits) (history : List Event) : Type 0 where
  pub legal : Legal sys limits history
  pub ends : EndsByClose history

-- the history began with these events: at one of its moments they were what had come
pub record IsBegin (events history : List Event) : Type 0 where
  pub rest : List Event
  pub is : history ≡ events ++ rest

module _ (sys : System) where
  -- after these events each state that is reached within i steps is in frame i
  abbrev pub FramesHold : List Event → Type 0
  FramesHold events = (i : ℕ) (s : World) → Reach sys i s → IsIn sys (replay events) i s 0

  -- after these events each state of a frame is one of the next frame
  abbrev pub FramesRise : List Event → Type 0
  FramesRise events =
      (i : ℕ) (w : World) (c : ℕ) → Fits sys.sig w → c < length w.copies →
      IsIn sys (replay events) i w c → IsIn sys (replay events) (i + 1) w c

  -- each state of a frame after the later events was one of it after the earlier ones
  abbrev pub FramesAreWithin : List Event → List Event → Type 0
  FramesAreWithin later earlier =
      (i : ℕ) (w : World) (c : ℕ) → IsIn sys (replay later) i w c → IsIn sys (replay earlier) i w c

  -- At each moment of the history frames hold and rise; and each frame is a part of what it was at
  -- each earlier moment.
  pub record HasSoundFrames (history : List Event) : Type 0 where
    pub hold : (events : List Event) → IsBegin events history → FramesHold events
    pub rise : (events : List Event) → IsBegin events history → FramesRise events
    pub stronger :
        (earlier later : List Event) → IsBegin later history → IsBegin earlier later →
        FramesAreWithin later earlier

  -- what the history tells holds, and a violating run is moreover a shortest one
  abbrev pub TellsTruth : List Event → Type 0
  TellsTruth history = (verdict : Verdict) → Told sys history verdict → HoldsShortest sys verdict

-- all of this: the history is legal and ends by a Close, its frames are sound, and it tells the
-- truth
pub record IsSoundRun (sys : System) (limits : Limits) (history : List Event) : Type 0 where
  pub whole : IsWhole sys limits history
  pub frames : HasSoundFrames sys history
  pub tells : TellsTruth sys history
