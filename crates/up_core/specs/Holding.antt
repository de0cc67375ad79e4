-- What holds of the machine in code at all times.
use Rattle.std.specs.Prelude.{◌≡◌, ℕ, ◌≤◌, length, None}
use Rattle.std.specs.Global.{Vec}
use Rattle.fo_core.specs.declared.order.Order.{Order}
use Rattle.fo_core.specs.declared.system.System.{System}
use Rattle.up_claims.specs.Inferring.{CanInfer}
use Rattle.up_machine.specs.declared.event.Event.{Event}
use Rattle.up_machine.specs.declared.limits.Limits.{Limits}
use Rattle.up_machine.specs.Legal.{Legal}
use Rattle.up_machine.specs.Machine.{Machine}
use Rattle.up_machine.specs.Ranges.{AreInRange}
use Rattle.up_machine.specs.Replay.{replay}
use Rattle.up_core.specs.declared.state.State.{State}
use Rattle.up_core.specs.Mirror.{IsMirror}
use Rattle.up_core.specs.Room.{HasRoom, HasSpare, IsRoomy}

-- There is room for this many events and what they bring, and until the end at least for one of
-- each job that is out.
pub record IsRoomFor (history : Vec Event) (s : State) (spare : ℕ) : Type 0 where
  pub events : HasRoom spare history
  pub entries : HasSpare spare s
  pub enough : (replay history.items).ending ≡ None → length (replay history.items).jobs ≤ spare

-- the places of the picks are as many as there is room for variables, and that is enough
pub record IsPicksFor (picks variables widest : ℕ) (m : Machine) : Type 0 where
  pub picks_are : picks ≡ variables
  pub roomy : IsRoomy variables widest m

-- the history is legal, the numbers are its replay, and there is room
pub record IsCore (sys : System) (order : Order) (limits : Limits) (history : Vec Event) (s : State) (spare picks variables widest : ℕ) : Type 0 where
  pub infer : CanInfer sys order
  pub in_range : AreInRange limits
  pub legal : Legal sys limits history.items
  pub mirror : IsMirror sys history.items (replay history.items) s
  pub room : IsRoomFor history s spare
  pub picks_for : IsPicksFor picks variables widest (replay history.items)
