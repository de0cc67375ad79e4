-- Which clause, by its entry, refutes a state.
use Rattle.std.specs.Prelude.{◌≡◌, ℕ, ◌-◌, ◌<◌, ◌≤◌, true, List, length, Option, None, Some, slice_get, MatchOption}
use Rattle.std.specs.Option.{option_and_then}
use Rattle.fo_core.specs.declared.signature.Sig.{Sig}
use Rattle.fo_core.specs.declared.world.World.{World}
use Rattle.up_diagram.specs.declared.cube.Cube.{Cube}
use Rattle.up_diagram.specs.Cubes.{Meets}
use Rattle.up_diagram.specs.Trying.{CanMeet}
use Rattle.up_machine.specs.declared.event.Event.{Event}
use Rattle.up_machine.specs.Due.{IsFirst}
use Rattle.up_core.specs.declared.state.ClauseEntry.{ClauseEntry}
use Rattle.up_core.specs.declared.state.JobEntry.{JobEntry}
use Rattle.up_core.specs.declared.state.ObligationEntry.{ObligationEntry}
use Rattle.up_core.specs.declared.state.State.{State}
use Rattle.up_core.specs.Mirror.{IsCubeAt, IsWorldAt}
use Rattle.up_core.specs.Steps.{work_in, push_in}

module _ (history : List Event) (sig : Sig) (w : World) where
  -- copy 0 may be tried against the cube that the event at this place learnt, in this room
  pub record CanTry (room place : ℕ) : Type 0 where
    pub meet : (cube : Cube) → IsCubeAt history place cube → CanMeet sig w 0 cube
    pub fits : (cube : Cube) → IsCubeAt history place cube → length cube.sorts ≤ room

  -- and against the cubes of all these clauses
  abbrev pub AreTriable : ℕ → List ClauseEntry → Type 0
  AreTriable room clauses =
      (k : ℕ) (e : ClauseEntry) → slice_get clauses k ≡ Some e → CanTry room e.learnt

  -- copy 0 meets the cube that the event at this place learnt
  pub record IsMetAt (place : ℕ) : Type 0 where
    pub cube : Cube
    pub there : IsCubeAt history place cube
    pub meets : Meets sig w 0 cube

  -- a live clause of this level or more does so
  pub record IsRefuting (level : ℕ) (e : ClauseEntry) : Type 0 where
    pub live : e.live ≡ true
    pub level_is : level ≤ e.level
    pub met : IsMetAt e.learnt

  -- the first such clause, if there is one
  abbrev pub IsFirstMet : ℕ → List ClauseEntry → Option ℕ → Type 0
  IsFirstMet level clauses place =
      MatchOption place
      ((k : ℕ) (e : ClauseEntry) → slice_get clauses k ≡ Some e → ¬ IsRefuting level e)
      (λ k. IsFirst clauses (λ _ e. IsRefuting level e) k)

-- the entry of the obligation that a worker works on
abbrev pub own_in : ℕ → List ObligationEntry → List JobEntry → Option ObligationEntry
own_in w obligations jobs = option_and_then (slice_get obligations) (work_in w jobs)

-- the state of the obligation that a worker works on, and its level
pub record IsOwn (history : List Event) (worker : ℕ) (s : State) (world : World) (level : ℕ) : Type 0 where
  pub entry : ObligationEntry
  pub there : own_in worker s.obligations.items s.jobs.items ≡ Some entry
  pub world_is : IsWorldAt history entry.found world
  pub level_is : entry.level ≡ level

module _ (history : List Event) (sig : Sig) (worker : ℕ) where
  abbrev pub AreTriableForOwn : ℕ → State → Type 0
  AreTriableForOwn room s =
      (world : World) (level : ℕ) → IsOwn history worker s world level →
      AreTriable history sig world room s.clauses.items

  -- the first clause that refutes that state
  abbrev pub IsFirstOwn : State → Option ℕ → Type 0
  IsFirstOwn s place =
      (world : World) (level : ℕ) → IsOwn history worker s world level →
      IsFirstMet history sig world level s.clauses.items place

-- the entry of the clause that a worker pushes
abbrev pub pushed_in : ℕ → List ClauseEntry → List JobEntry → Option ClauseEntry
pushed_in w clauses jobs = option_and_then (slice_get clauses) (push_in w jobs)

module _ (history : List Event) (sig : Sig) (world : World) (worker : ℕ) (s : State) (place : Option ℕ) where
  -- The first clause that refutes the state in the frame below the obligation that is worked on;
  -- none below level 2.
  pub record IsFirstBelow : Type 0 where
    pub high : (entry : ObligationEntry) →
        own_in worker s.obligations.items s.jobs.items ≡ Some entry → 2 ≤ entry.level →
        IsFirstMet history sig world (entry.level - 1) s.clauses.items place
    pub low : (entry : ObligationEntry) →
        own_in worker s.obligations.items s.jobs.items ≡ Some entry → entry.level < 2 →
        place ≡ None

  -- the first clause that refutes the state in the frame of the clause that is pushed
  abbrev pub IsFirstPushed : Type 0
  IsFirstPushed =
      (entry : ClauseEntry) → pushed_in worker s.clauses.items s.jobs.items ≡ Some entry →
      IsFirstMet history sig world entry.level s.clauses.items place
