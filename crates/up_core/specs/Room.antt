-- Room for entries, of which event calls take no further memory.
use Rattle.std.specs.Prelude.{◌≡◌, ℕ, ◌≤◌, length, sum, Option, None, Some, ⊤}
use Rattle.fo_core.specs.declared.world.World.{World}
use Rattle.up_machine.specs.declared.event.Event.{Event}
use Rattle.up_machine.specs.declared.event.Event.TheVariants as E
use Rattle.up_machine.specs.declared.event.Origin.TheVariants as O
use Rattle.up_machine.specs.Machine.{Clause, Obligation, Given, Work, Look, Push, Trace, Held, Machine}
use Rattle.up_machine.specs.Sound.{Each}
use Rattle.up_core.specs.declared.state.State.{State}
pub use Rattle.up_core.specs.Keeping.{HasRoom}

-- n further clauses, obligations and jobs fit
pub record HasSpare (n : ℕ) (s : State) : Type 0 where
  pub clauses : n ≤ s.clauses.room
  pub obligations : n ≤ s.obligations.room
  pub jobs : HasRoom n s.jobs

-- all is the same but the room
pub record HaveSameLists (s t : State) : Type 0 where
  pub clauses : t.clauses.items ≡ s.clauses.items
  pub obligations : t.obligations.items ≡ s.obligations.items
  pub jobs : t.jobs.items ≡ s.jobs.items
  pub frontier : t.clauses.frontier ≡ s.clauses.frontier
  pub secure : t.secure ≡ s.secure
  pub calm : t.calm ≡ s.calm
  pub productive : t.productive ≡ s.productive
  pub ended : t.ended ≡ s.ended

-- the world whose copy 0 an event makes an obligation's state
abbrev pub state_of : Event → Option World
state_of (E.Seed w s) = Some s
state_of (E.Before w (O.Step p)) = Some p
state_of e = None

-- the state of a work has no more elements than there is room for variables
abbrev pub IsRoomyFor : ℕ → Given → Type 0
IsRoomyFor variables (Work k level below world) = sum world.sizes ≤ variables
IsRoomyFor variables (Look level cubes avoid done) = ⊤
IsRoomyFor variables (Push k level cubes cube) = ⊤
IsRoomyFor variables (Trace k steps) = ⊤

-- There is room for the variables of each clause's cube and for the elements of each work's state;
-- no obligation's state has more elements than the widest.
pub record IsRoomy (variables widest : ℕ) (m : Machine) : Type 0 where
  pub cubes : Each m.clauses (λ k (c : Clause). length c.cube.sorts ≤ variables)
  pub states : Each m.obligations (λ k (o : Obligation). sum o.world.sizes ≤ widest)
  pub works : Each m.jobs (λ k (h : Held). IsRoomyFor variables h.given)
