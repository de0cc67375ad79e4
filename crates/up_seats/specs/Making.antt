-- What a call makes of the machine in code: events, and nothing else.
use Rattle.std.specs.Prelude.{◌≡◌, List, ◌++◌}
use Rattle.up_machine.specs.declared.event.Event.{Event}
use Rattle.up_core.specs.View.{CoreView}

-- the system, the order and the limits are the same, and these events have come; what there is room
-- for may have changed
pub record HasMade (before : CoreView) (events : List Event) (after : CoreView) : Type 0 where
  pub sys : after.sys ≡ before.sys
  pub order : after.order ≡ before.order
  pub limits : after.limits ≡ before.limits
  pub history : after.history ≡ before.history ++ events
