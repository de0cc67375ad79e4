-- The whole history of a run by rounds.
use Rattle.std.specs.Prelude.{◌≡◌, List}
use Rattle.fo_core.specs.declared.order.Order.{Order}
use Rattle.fo_core.specs.declared.system.System.{System}
use Rattle.up_machine.specs.declared.event.Event.{Event}
use Rattle.up_machine.specs.declared.limits.Limits.{Limits}
use Rattle.up_machine.specs.Legal.{Legal}
use Rattle.up_machine.specs.Rounds.{Rounds}
use Rattle.up_core.specs.View.{CoreView}

-- each event is legal, and the events come in the order of rounds, up to an end
pub record IsCourse (sys : System) (limits : Limits) (history : List Event) : Type 0 where
  pub legal : Legal sys limits history
  pub rounds : Rounds sys limits history

-- the limits are the same but for how many workers share the machine
pub record AreAlike (a b : Limits) : Type 0 where
  pub batch : a.batch ≡ b.batch
  pub frames : a.frames ≡ b.frames
  pub steps : a.steps ≡ b.steps
  pub weight : a.weight ≡ b.weight

-- the machine in code has this system, order and these limits, and its history is that of a run by
-- rounds
pub record IsRun (sys : System) (order : Order) (limits : Limits) (c : CoreView) : Type 0 where
  pub sys_is : c.sys ≡ sys
  pub order_is : c.order ≡ order
  pub limits_are : c.limits ≡ limits
  pub course : IsCourse sys limits c.history
