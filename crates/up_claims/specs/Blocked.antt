-- When a cube is blocked, and the one pass that drops literals as long as it stays so.
use Rattle.std.specs.Prelude.{ℕ, suc, ◌+◌, ◌<◌, ◌≤◌, List, Option, length}
use Rattle.fo_core.specs.declared.system.System.{System}
use Rattle.fo_core.specs.declared.world.World.{World}
use Rattle.fo_core.specs.Runs.{IsState, IsInitial, IsStep, Violates}
use Rattle.fo_core.specs.Tables.{Fits}
use Rattle.up_diagram.specs.declared.cube.Cube.{Cube}
use Rattle.up_diagram.specs.Cubes.{Meets, without}
use Rattle.up_claims.specs.Frames.{Avoids, IsInFrame}

-- no initial state, in no copy of any world, meets the cube
abbrev pub NoInitial : System → Cube → Type 0
NoInitial sys cube =
    (w : World) (c : ℕ) → Fits sys.sig w → c < length w.copies →
    IsInitial sys w c → ¬ Meets sys.sig w c cube

-- no step leads from the frame to a state that meets the cube
abbrev pub NoStep : System → Option (List Cube) → Cube → Type 0
NoStep sys frame cube =
    (w : World) (c : ℕ) → Fits sys.sig w → c + 1 < length w.copies →
    IsInFrame sys frame w c → IsStep sys w c → ¬ Meets sys.sig w (c + 1) cube

-- no copy of any world is a state that meets none of the frame's cubes, violates a safety, and meets
-- none of the cubes to avoid
abbrev pub NoSeed : System → List Cube → List Cube → Type 0
NoSeed sys frame avoid =
    (w : World) (c : ℕ) → Fits sys.sig w → c < length w.copies →
    IsState sys w c → Avoids sys.sig w c frame → Violates sys w c → ¬ Avoids sys.sig w c avoid

-- the cube is blocked by the frame: no initial state meets it, and no step from the frame leads into it
pub record IsBlocked (sys : System) (frame : Option (List Cube)) (cube : Cube) : Type 0 where
  pub no_initial : NoInitial sys cube
  pub no_step : NoStep sys frame cube

-- The literals from a place on are tried in order, and each is dropped without which the cube is still
-- good; the last cube is what is left.
pub data Passes (Good : Cube → Type 0) : ℕ → Cube → Cube → Type 0 where
  ends : (k : ℕ) (cube : Cube) → length cube.lits ≤ k → Passes Good k cube cube
  drops : (k : ℕ) (cube rest : Cube) → k < length cube.lits → Good (without cube k) →
      Passes Good k (without cube k) rest → Passes Good k cube rest
  keeps : (k : ℕ) (cube rest : Cube) → k < length cube.lits → ¬ Good (without cube k) →
      Passes Good (suc k) cube rest → Passes Good k cube rest

-- what one pass over the literals leaves of a cube, where each is dropped whose loss leaves it blocked
abbrev pub IsPass : System → Option (List Cube) → Cube → Cube → Type 0
IsPass sys frame cube rest = Passes (IsBlocked sys frame) 0 cube rest

-- the cube is blocked, and without any one of its literals it isn't
pub record IsMinimal (sys : System) (frame : Option (List Cube)) (cube : Cube) : Type 0 where
  pub blocked : IsBlocked sys frame cube
  pub needed : (k : ℕ) → k < length cube.lits → ¬ IsBlocked sys frame (without cube k)
