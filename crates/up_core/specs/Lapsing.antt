-- Failed pushes that a clause makes invalid, since it refutes the state that their step begins in.
use Rattle.std.specs.Prelude.{◌≡◌, ℕ, ◌+◌, ◌^◌, ◌<◌, ◌≤◌, List, [], ◌∷◌, ◌++◌, length, Option, None, Some, slice_get, true, ◌⊎◌}
use Rattle.fo_core.specs.declared.signature.Sig.{Sig}
use Rattle.fo_core.specs.declared.world.World.{World}
use Rattle.up_diagram.specs.declared.cube.Cube.{Cube}
use Rattle.up_diagram.specs.Cubes.{Meets}
use Rattle.up_diagram.specs.Trying.{CanMeet}
use Rattle.up_machine.specs.declared.event.Event.{Event}
use Rattle.up_core.specs.declared.state.ClauseEntry.{ClauseEntry}
use Rattle.up_core.specs.Mirror.{Pairs, IsCubeAt, IsWorldAt}
use Rattle.up_core.specs.Steps.{change_where, new_entry, raised_entry}

module _ (history : List Event) (sig : Sig) (cube : Cube) (place : ℕ) where
  -- copy 0 of the world that the event at this place brought may be tried against the cube
  abbrev pub CanHit : Type 0
  CanHit = (world : World) → IsWorldAt history place world → CanMeet sig world 0 cube

  -- and meets it
  pub record IsWorldHit : Type 0 where
    pub world : World
    pub there : IsWorldAt history place world
    pub meets : Meets sig world 0 cube

-- the clause's cube, and the levels of the clauses whose failed pushes are looked at
module _ (history : List Event) (sig : Sig) (cube : Cube) (low high : ℕ) where
  -- the entry's valid failed push, of one of these levels, begins in a state that meets the cube
  pub record IsHit (e : ClauseEntry) : Type 0 where
    pub place : ℕ
    pub failed : e.failed ≡ Some place
    pub from_low : low ≤ e.level
    pub to_high : e.level ≤ high
    pub hit : IsWorldHit history sig cube place

  -- The entry as it is afterwards: without its failed push where that is hit, else the same.
  pub record IsLapsed (e f : ClauseEntry) : Type 0 where
    pub learnt : f.learnt ≡ e.learnt
    pub level : f.level ≡ e.level
    pub live : f.live ≡ e.live
    pub failed : (f.failed ≡ e.failed) × (¬ IsHit e) ⊎ (f.failed ≡ None) × IsHit e

  abbrev pub AreLapsed : List ClauseEntry → List ClauseEntry → Type 0
  AreLapsed old new = Pairs old new (λ k e f. IsLapsed e f)

  -- the world of a failed push may be tried against the cube, and its clause is live
  pub record CanLapse (e : ClauseEntry) : Type 0 where
    pub meet : (place : ℕ) → e.failed ≡ Some place → CanHit history sig cube place
    pub live : (place : ℕ) → e.failed ≡ Some place → e.live ≡ true

  abbrev pub AreLapsable : List ClauseEntry → Type 0
  AreLapsable es = (k : ℕ) (e : ClauseEntry) → slice_get es k ≡ Some e → CanLapse e

module _ (history : List Event) (sig : Sig) where
  -- the clause of this entry may rise, and the others be tried against it, in this room
  pub record CanRise (room : ℕ) (clauses : List ClauseEntry) (e : ClauseEntry) : Type 0 where
    pub level : e.level + 1 < 2 ^ 32
    pub meet : (cube : Cube) → IsCubeAt history e.learnt cube →
        AreLapsable history sig cube (e.level + 1) (e.level + 1) clauses
    pub fits : (cube : Cube) → IsCubeAt history e.learnt cube → length cube.sorts ≤ room

  -- the failed pushes of clauses one level above it lapsed that it refutes
  abbrev pub AreLapsedAbove : List ClauseEntry → List ClauseEntry → ClauseEntry → Type 0
  AreLapsedAbove old new e =
      (cube : Cube) → IsCubeAt history e.learnt cube →
      AreLapsed history sig cube (e.level + 1) (e.level + 1) old new

  -- and then the clause at this place rose by a level
  pub record IsRaised (place : Option ℕ) (old new : List ClauseEntry) (e : ClauseEntry) : Type 0 where
    pub middle : List ClauseEntry
    pub lapsed : AreLapsedAbove old middle e
    pub raised : new ≡ change_where place (raised_entry (e.level + 1)) middle

  -- where a cube is learnt at this level the failed pushes lapsed that it refutes, and its entry,
  -- found at this place of the history, came
  pub record IsLearnt (cube : Cube) (level found : ℕ) (old new : List ClauseEntry) : Type 0 where
    pub middle : List ClauseEntry
    pub lapsed : AreLapsed history sig cube 0 level old middle
    pub learnt : new ≡ middle ++ new_entry found level ∷ []
