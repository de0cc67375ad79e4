-- What contracts say of passes of a turnstile in which a machine is kept.
use Rattle.std.specs.Prelude.{◌≡◌, ℕ, ◌+◌, ◌<◌, ◌≤◌, List, length, None, Some, ◌⊎◌}
use Rattle.turnstile.specs.History.{IsPrefixOf, entries_of}
use Rattle.turnstile.specs.Views.{PassView, TurnstileView, IsOf, IsOutside, HasNumbers}
use Rattle.up_machine.specs.declared.end.End.{End}
use Rattle.up_machine.specs.declared.event.Event.{Event}
use Rattle.up_machine.specs.Legal.{Legal}
use Rattle.up_machine.specs.Machine.{Machine, held_by}
use Rattle.up_machine.specs.Replay.{worker_of}
use Rattle.up_core.specs.View.{CoreView}
use Rattle.up_core.specs.declared.kept_value.Basis.{Basis}

abbrev pub CorePass : Type 0
CorePass = PassView Basis Event

abbrev pub CoreTurnstile : Type 0
CoreTurnstile = TurnstileView Basis

-- the machine in code as the pass last saw it, but for what there is room for
abbrev pub seen_core : CoreTurnstile → CorePass → CoreView
seen_core t p = record {
  sys = t.base.sys;
  order = t.base.order;
  limits = t.base.limits;
  history = p.seen;
  spare = 0;
  variables = 0;
}

-- the run has ended
abbrev pub HasEnded : Machine → Type 0
HasEnded m = (end : End) × (m.ending ≡ Some end)

-- the worker has no job out, or the run has ended
abbrev pub IsIdle : Machine → ℕ → Type 0
IsIdle m w = (held_by m.jobs w ≡ None) ⊎ HasEnded m

-- the events of the worker
abbrev pub events_of : ℕ → List Event → List Event
events_of w history = entries_of worker_of w history

-- those that the pass's worker has made
abbrev pub own_events : CorePass → List Event
own_events p = events_of p.from p.seen

-- The pass is that of one worker, who is between two visits, and what it has seen is legal.
pub record IsReady (t : CoreTurnstile) (p : CorePass) : Type 0 where
  pub own : IsOf t p
  pub outside : IsOutside p
  pub one : p.to ≡ p.from + 1
  pub worker : p.from < t.base.limits.workers
  pub legal : Legal t.base.sys t.base.limits p.seen

-- The pass has the same number as before, the history that it has seen goes on from what it had
-- seen, and the worker's events in it are those before, and then those that it made since.
pub record GoesOn (p q : CorePass) : Type 0 where
  pub same : HasNumbers q p.from p.to
  pub grows : IsPrefixOf p.seen q.seen
  pub made : IsPrefixOf (own_events p) (own_events q)

-- one visit: the same, with at most one further event of the worker
pub record IsVisit (p q : CorePass) : Type 0 where
  pub goes_on : GoesOn p q
  pub one : length (own_events q) ≤ length (own_events p) + 1
