-- Frames: sets of states that are told by cubes which none of them meets.
use Rattle.std.specs.Prelude.{ℕ, zero, suc, List, Option, None, Some, ⊤}
use Rattle.std.specs.List.{All}
use Rattle.fo_core.specs.declared.signature.Sig.{Sig}
use Rattle.fo_core.specs.declared.system.System.{System}
use Rattle.fo_core.specs.declared.world.World.{World}
use Rattle.fo_core.specs.Runs.{IsState, IsInitial}
use Rattle.up_diagram.specs.declared.cube.Cube.{Cube}
use Rattle.up_diagram.specs.Cubes.{Meets, IsCube}

-- copy c meets none of the cubes
abbrev pub Avoids : Sig → World → ℕ → List Cube → Type 0
Avoids sig w c cubes = All (λ cube. ¬ Meets sig w c cube) cubes

-- copy c is in the frame: with none given it is an initial state, else a state that meets none of the
-- frame's cubes
abbrev pub IsInFrame : System → Option (List Cube) → World → ℕ → Type 0
IsInFrame sys None w c = IsInitial sys w c
IsInFrame sys (Some cubes) w c = IsState sys w c × Avoids sys.sig w c cubes

-- a frame whose cubes, if it has some, are well-sorted
abbrev pub IsFrame : Sig → Option (List Cube) → Type 0
IsFrame sig None = ⊤
IsFrame sig (Some cubes) = All (IsCube sig) cubes

-- frame i, where these are the cubes of its clauses: frame 0 is the initial states
abbrev pub frame_at : ℕ → List Cube → Option (List Cube)
frame_at zero cubes = None
frame_at (suc i) cubes = Some cubes
