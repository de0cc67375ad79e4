-- Workers that are out of memory.
use Rattle.std.specs.Prelude.{◌≡◌, ◌≤◌, Bool, true, false, List, [], ◌++◌, length}
use Rattle.std.specs.List.{filter}
use Rattle.up_machine.specs.declared.event.Event.{Event}
use Rattle.up_machine.specs.declared.event.Event.TheVariants as E
use Rattle.up_machine.specs.declared.event.Why.TheVariants as Y

-- by this event a worker puts its job back since it is out of memory
abbrev pub gives_up : Event → Bool
gives_up (E.Return w Y.NoMemory) = true
gives_up e = false

-- by none of these events does a worker give up
abbrev pub NoneGivesUp : List Event → Type 0
NoneGivesUp events = filter gives_up events ≡ []

-- by none of these events but the last does a worker give up
pub record GivesUpLast (events : List Event) : Type 0 where
  pub front : List Event
  pub last : List Event
  pub parts : events ≡ front ++ last
  pub none : NoneGivesUp front
  pub one : length last ≤ 1
