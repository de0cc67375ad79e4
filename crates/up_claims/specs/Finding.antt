-- What the queries of property-directed reachability ask for.
use Rattle.std.specs.Prelude.{◌≡◌, List, Option, length}
use Rattle.fo_core.specs.declared.system.System.{System}
use Rattle.fo_core.specs.declared.world.World.{World}
use Rattle.fo_core.specs.Runs.{IsState, IsInitial, IsStep, Violates}
use Rattle.fo_core.specs.Tables.{Fits}
use Rattle.up_diagram.specs.declared.cube.Cube.{Cube}
use Rattle.up_diagram.specs.Cubes.{Meets}
use Rattle.up_claims.specs.Frames.{Avoids, IsInFrame}

-- one state of the frame that violates a safety and meets none of the cubes to avoid
pub record IsSeed (sys : System) (frame avoid : List Cube) (w : World) : Type 0 where
  pub fits : Fits sys.sig w
  pub copies : length w.copies ≡ 1
  pub state : IsState sys w 0
  pub in_frame : Avoids sys.sig w 0 frame
  pub violates : Violates sys w 0
  pub avoids : Avoids sys.sig w 0 avoid

-- one initial state that meets the cube
pub record IsRoot (sys : System) (cube : Cube) (w : World) : Type 0 where
  pub fits : Fits sys.sig w
  pub copies : length w.copies ≡ 1
  pub initial : IsInitial sys w 0
  pub meets : Meets sys.sig w 0 cube

-- one step from the frame (without one, from an initial state) to a state that meets the cube
pub record IsStepInto (sys : System) (frame : Option (List Cube)) (cube : Cube) (w : World) : Type 0 where
  pub fits : Fits sys.sig w
  pub copies : length w.copies ≡ 2
  pub in_frame : IsInFrame sys frame w 0
  pub step : IsStep sys w 0
  pub meets : Meets sys.sig w 1 cube
