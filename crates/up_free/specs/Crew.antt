-- Several workers, and the run that they make.
use Rattle.std.specs.Prelude.{◌≡◌, ℕ, ◌<◌, ◌≤◌, List, []}
use Rattle.std.specs.List.{All}
use Rattle.fo_core.specs.declared.order.Order.{Order}
use Rattle.fo_core.specs.declared.system.System.{System}
use Rattle.turnstile.specs.Views.{IsOf, IsOutside, HasNumbers}
use Rattle.up_machine.specs.declared.event.Event.{Event}
use Rattle.up_machine.specs.declared.limits.Limits.{Limits}
use Rattle.up_machine.specs.Replay.{replay, worker_of}
use Rattle.up_machine.specs.Sound.{IsFrameSound}
use Rattle.up_core.specs.View.{CoreView}
use Rattle.up_seats.specs.Sound.{IsBegin, IsSoundRun}
use Rattle.up_visits.specs.GivingUp.{GivesUpLast}
use Rattle.up_visits.specs.Passes.{CorePass, CoreTurnstile, events_of}

-- of each worker in the range, none of the events but the last puts a job back since memory was refused
abbrev pub EachGivesUpLast : ℕ → ℕ → List Event → Type 0
EachGivesUpLast from to history =
    (w : ℕ) → from ≤ w → w < to → GivesUpLast (events_of w history)

-- the pass has numbers of workers, and has seen nothing
pub record IsFresh (t : CoreTurnstile) (p : CorePass) : Type 0 where
  pub own : IsOf t p
  pub outside : IsOutside p
  pub workers : p.to ≤ t.base.limits.workers
  pub nothing : p.seen ≡ []

-- the pass with these numbers, after their workers have ended
pub record IsSpent (t : CoreTurnstile) (from to : ℕ) (p : CorePass) : Type 0 where
  pub own : IsOf t p
  pub outside : IsOutside p
  pub numbers : HasNumbers p from to
  pub last : EachGivesUpLast from to p.seen

-- At each moment of the history what frames rest on is so, as they stand then. So what blocked a
-- clause in the frame that its worker was given still does, though others have made that frame
-- stronger meanwhile.
abbrev pub StaysJustified : System → List Event → Type 0
StaysJustified sys history =
    (events : List Event) → IsBegin events history → IsFrameSound sys (replay events)

-- The machine in code has this system, this order and these limits, and its history is a sound run
-- that workers made who ran freely: each event is that of a worker, and one that gives up makes no
-- event after it.
pub record IsFreeRun (sys : System) (order : Order) (limits : Limits) (c : CoreView) : Type 0 where
  pub sys_is : c.sys ≡ sys
  pub order_is : c.order ≡ order
  pub limits_are : c.limits ≡ limits
  pub sound : IsSoundRun sys limits c.history
  pub justified : StaysJustified sys c.history
  pub workers : All (λ e. worker_of e < limits.workers) c.history
  pub last : EachGivesUpLast 0 limits.workers c.history
