-- How the numbers that the code keeps are those of the machine.
use Rattle.std.specs.Prelude.{◌≡◌, ℕ, suc, List, [], ◌∷◌, Option, None, Some, is_some, slice_get, ⊤}
use Rattle.std.specs.List.{Any}
use Rattle.std.specs.Option.{option_and_then}
use Rattle.fo_core.specs.declared.system.System.{System}
use Rattle.fo_core.specs.declared.world.World.{World}
use Rattle.up_diagram.specs.declared.cube.Cube.{Cube}
use Rattle.up_machine.specs.declared.event.Event.{Event}
use Rattle.up_machine.specs.declared.event.Event.TheVariants as E
use Rattle.up_machine.specs.declared.event.Origin.TheVariants as O
use Rattle.up_machine.specs.Machine.{Clause, Status, Ready, Out, Waiting, Done, Rooted, Obligation, FailedPush, Given, Look, Held, Machine}
use Rattle.up_machine.specs.Due.{IsValid, job_of}
use Rattle.up_core.specs.declared.state.ClauseEntry.{ClauseEntry}
use Rattle.up_core.specs.declared.state.JobEntry.{JobEntry}
use Rattle.up_core.specs.declared.state.ObligationEntry.{ObligationEntry}
use Rattle.up_core.specs.declared.state.Progress.{Progress}
use Rattle.up_core.specs.declared.state.Progress.TheVariants as P
use Rattle.up_core.specs.declared.state.State.{State}

-- the lists are as long, and the relation holds of the elements at each place
abbrev pub Pairs : {X Y : Type 0} → List X → List Y → (ℕ → X → Y → Type 0) → Type 0
Pairs [] [] R = ⊤
Pairs [] (y ∷ ys) R = ⊥
Pairs (x ∷ xs) [] R = ⊥
Pairs (x ∷ xs) (y ∷ ys) R = R 0 x y × Pairs xs ys (λ k. R (suc k))

-- the cube that an event learns
abbrev pub cube_of : Event → Option Cube
cube_of (E.Learn w cube) = Some cube
cube_of e = None

-- the world that an event brings into the history
abbrev pub world_of : Event → Option World
world_of (E.Seed w s) = Some s
world_of (E.Before w (O.Initial u)) = Some u
world_of (E.Before w (O.Step p)) = Some p
world_of (E.Fail w p) = Some p
world_of e = None

module _ (history : List Event) where
  -- the event at this place learns the cube
  abbrev pub IsCubeAt : ℕ → Cube → Type 0
  IsCubeAt place cube = option_and_then cube_of (slice_get history place) ≡ Some cube

  -- the event at this place brings the world
  abbrev pub IsWorldAt : ℕ → World → Type 0
  IsWorldAt place world = option_and_then world_of (slice_get history place) ≡ Some world

  -- what has become of an obligation, where the root of a rooted one stands in the history
  abbrev pub IsStatusOf : Progress → Status → Type 0
  IsStatusOf P.Ready status = status ≡ Ready
  IsStatusOf P.Out status = status ≡ Out
  IsStatusOf P.Waiting status = status ≡ Waiting
  IsStatusOf P.Done status = status ≡ Done
  IsStatusOf (P.Rooted place) status = (root : World) × (status ≡ Rooted root) × IsWorldAt place root

  -- the entry of an obligation
  pub record IsObligationOf (o : Obligation) (entry : ObligationEntry) : Type 0 where
    pub level : o.level ≡ entry.level
    pub world : IsWorldAt entry.found o.world
    pub parent : o.parent ≡ entry.parent
    pub status : IsStatusOf entry.progress o.status

  module _ (sys : System) (m : Machine) (k : ℕ) (c : Clause) where
    -- the failed push at this place of the history is a valid one of clause k
    pub record IsValidAt (place : ℕ) : Type 0 where
      pub number : ℕ
      pub failed : FailedPush
      pub there : slice_get m.failed number ≡ Some failed
      pub valid : IsValid sys m k c failed
      pub step : IsWorldAt place failed.step

    -- the place of the clause's valid failed push, or that it has none
    abbrev pub IsValidPush : Option ℕ → Type 0
    IsValidPush None = ¬ Any (IsValid sys m k c) m.failed
    IsValidPush (Some place) = IsValidAt place

    -- the entry of clause k
    pub record IsClauseOf (entry : ClauseEntry) : Type 0 where
      pub cube : IsCubeAt entry.learnt c.cube
      pub level : c.level ≡ entry.level
      pub live : c.live ≡ entry.live
      pub failed : IsValidPush entry.failed

-- how many seed obligations were done when a look was taken
abbrev pub IsDoneAt : Given → ℕ → Type 0
IsDoneAt (Look level cubes avoid done) n = done ≡ n
IsDoneAt _ n = ⊤

-- the entry of a job that is out
pub record IsJobOf (held : Held) (entry : JobEntry) : Type 0 where
  pub worker : held.worker ≡ entry.worker
  pub job : job_of held.given ≡ entry.job
  pub done : IsDoneAt held.given entry.done

-- the numbers are those of the machine, and say where in the history its worlds and cubes stand
pub record IsMirror (sys : System) (history : List Event) (m : Machine) (s : State) : Type 0 where
  pub clauses : Pairs m.clauses s.clauses.items (λ k c e. IsClauseOf history sys m k c e)
  pub obligations : Pairs m.obligations s.obligations.items (λ k o e. IsObligationOf history o e)
  pub jobs : Pairs m.jobs s.jobs.items (λ k h e. IsJobOf h e)
  pub frontier : m.frontier ≡ s.clauses.frontier
  pub secure : m.secure ≡ s.secure
  pub calm : m.calm ≡ s.calm
  pub productive : m.productive ≡ s.productive
  pub ended : is_some m.ending ≡ s.ended
