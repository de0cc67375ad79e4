-- What a worker holds, and what the search of its job may ask.
use Rattle.std.specs.Prelude.{◌≡◌, ℕ, List, Option, None, Some, map, ⊤}
use Rattle.std.specs.List.{Contains}
use Rattle.fo_core.specs.declared.signature.Sig.{Sig}
use Rattle.fo_core.specs.declared.system.System.{System}
use Rattle.fo_core.specs.declared.world.World.{World}
use Rattle.up_diagram.specs.declared.cube.Cube.{Cube}
use Rattle.up_diagram.specs.Diagrams.{diagram}
use Rattle.up_claims.specs.InferAsked.{Asking, IsLookAsked, IsBlockAsked, IsPushAsked, IsUnrollAsked}
use Rattle.up_machine.specs.Machine.{Given, Work, Look, Push, Trace, Machine, held_by}

-- the cube that says all of the state of an obligation with this world
abbrev pub state_cube : Sig → World → Cube
state_cube sig world = diagram sig world 0

abbrev pub state_cubes : Sig → List World → List Cube
state_cubes sig worlds = map (state_cube sig) worlds

-- The queries of a job, in their order: which were asked before, what the next is asked for, and
-- the next. A work asks for the least initial state in the diagram of its state, else for the least
-- step into it from the frame below, else which literals of the diagram can go; a look for the
-- least violating state of its frame besides those that it avoids; a push for the least step out of
-- its frame into the clause's cube; a trace for the least of the shortest violating runs.
abbrev pub asked_by : System → Given → Asking
asked_by sys (Work k level below world) = IsBlockAsked sys below (state_cube sys.sig world)
asked_by sys (Look level cubes avoid done) = IsLookAsked sys cubes (state_cubes sys.sig avoid)
asked_by sys (Push k level cubes cube) = IsPushAsked sys cubes cube
asked_by sys (Trace k steps) = IsUnrollAsked sys steps

-- the frame in which a search looks, as it was given; none for the initial states
abbrev pub frame_given : Given → Option (List Cube)
frame_given (Work k level below world) = below
frame_given (Look level cubes avoid done) = Some cubes
frame_given (Push k level cubes cube) = Some cubes
frame_given (Trace k steps) = None

-- the cube isn't one by which the frame is told
abbrev pub IsOutside : Option (List Cube) → Cube → Type 0
IsOutside None cube = ⊤
IsOutside (Some cubes) cube = ¬ Contains cubes cube

module _ (m : Machine) (w : ℕ) where
  -- the worker holds some job
  pub record HoldsJob : Type 0 where
    pub given : Given
    pub held : held_by m.jobs w ≡ Some given

  -- the worker holds a work
  pub record HoldsWork : Type 0 where
    pub obligation : ℕ
    pub level : ℕ
    pub below : Option (List Cube)
    pub world : World
    pub held : held_by m.jobs w ≡ Some (Work obligation level below world)

  -- the worker holds a look
  pub record HoldsLook : Type 0 where
    pub level : ℕ
    pub frame : List Cube
    pub avoid : List World
    pub done : ℕ
    pub held : held_by m.jobs w ≡ Some (Look level frame avoid done)

  -- the worker holds a push
  pub record HoldsPush : Type 0 where
    pub clause : ℕ
    pub level : ℕ
    pub frame : List Cube
    pub cube : Cube
    pub held : held_by m.jobs w ≡ Some (Push clause level frame cube)

  -- the worker holds a trace
  pub record HoldsTrace : Type 0 where
    pub obligation : ℕ
    pub steps : ℕ
    pub held : held_by m.jobs w ≡ Some (Trace obligation steps)
