-- What contracts see of the machine in code.
use Rattle.std.specs.Prelude.{◌≡◌, ℕ, ◌-◌, ◌^◌, ◌<◌, ◌≤◌, List, [], ◌∷◌, ◌++◌, length, sum, None, Some, slice_get, ⊤}
use Rattle.fo_core.specs.declared.order.Order.{Order}
use Rattle.fo_core.specs.declared.system.System.{System}
use Rattle.fo_core.specs.declared.world.World.{World}
use Rattle.up_claims.specs.declared.report.Numbers.{Numbers}
use Rattle.up_machine.specs.declared.event.Event.{Event}
use Rattle.up_machine.specs.declared.event.Origin.{Origin}
use Rattle.up_machine.specs.declared.event.Origin.TheVariants as O
use Rattle.up_machine.specs.declared.job.Job.{Job}
use Rattle.up_machine.specs.declared.job.Job.TheVariants as J
use Rattle.up_machine.specs.declared.limits.Limits.{Limits}
use Rattle.up_machine.specs.Legal.{IsCover}
use Rattle.up_machine.specs.Machine.{Machine, Obligation}
use Rattle.up_machine.specs.Replay.{replay}

-- the system, order and limits that its history is about, the history, how many events there is
-- room for, and for how many variables of a cube
pub record CoreView : Type 0 where
  pub sys : System
  pub order : Order
  pub limits : Limits
  pub history : List Event
  pub spare : ℕ
  pub variables : ℕ

-- the machine now
abbrev pub now : CoreView → Machine
now c = replay c.history

-- after one more event, which takes one place of the room
abbrev pub with_event : CoreView → Event → CoreView
with_event c e = record {
  sys = c.sys;
  order = c.order;
  limits = c.limits;
  history = c.history ++ e ∷ [];
  spare = c.spare - 1;
  variables = c.variables;
}

-- how far the machine has come
abbrev pub numbers_of : Machine → Numbers
numbers_of m = record {
  productive = m.productive;
  frontier = m.frontier;
  clauses = length m.clauses;
}

-- how many elements a state has
abbrev pub elements_of : World → ℕ
elements_of w = sum w.sizes

-- there is room for as many variables as the state of this obligation has elements
abbrev pub HasVariablesFor : CoreView → ℕ → Type 0
HasVariablesFor c k =
    (o : Obligation) → slice_get (now c).obligations k ≡ Some o → elements_of o.world ≤ c.variables

-- and for the job, if it is a work
abbrev pub HasVariablesForJob : CoreView → Job → Type 0
HasVariablesForJob c (J.Work k) = HasVariablesFor c k
HasVariablesForJob c J.Look = ⊤
HasVariablesForJob c (J.Push k) = ⊤
HasVariablesForJob c (J.Trace k) = ⊤

-- how many elements the state has that an origin makes an obligation's, if it makes one
abbrev pub elements_in : Origin → ℕ
elements_in (O.Initial u) = 0
elements_in (O.Step p) = sum p.sizes

abbrev pub HasFewElements : Origin → Type 0
HasFewElements origin = elements_in origin < 2 ^ 32

-- clause `gone` may be retired for clause `by`: there is no end, and the second covers the first
abbrev pub MayRetire : Machine → ℕ → ℕ → Type 0
MayRetire m gone by = (m.ending ≡ None) × IsCover m gone by
