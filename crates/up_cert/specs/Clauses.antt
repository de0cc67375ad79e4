-- The clauses of a verdict, and a frame of theirs.
use Rattle.std.specs.Prelude.{◌≡◌, ℕ, ◌<◌, ◌≤◌, ◌^◌, List, length}
use Rattle.std.specs.List.{All}
use Rattle.fo_core.specs.declared.signature.Sig.{Sig}
use Rattle.fo_core.specs.declared.system.System.{System}
use Rattle.fo_core.specs.declared.world.World.{World}
use Rattle.up_claims.specs.declared.verdict.Kept.{Kept}
use Rattle.up_claims.specs.Verdicts.{cubes_of, cubes_from}
use Rattle.up_diagram.specs.Cubes.{IsCube, Meets}
use Rattle.up_cert.specs.declared.clauses.Frame.{Frame}

-- well-sorted clauses that have numbers of 32 bits
pub record AreClauses (sig : Sig) (clauses : List Kept) : Type 0 where
  pub sorted : All (IsCube sig) (cubes_of clauses)
  pub few : length clauses < 2 ^ 32

-- the cubes are those of the frame of that number
abbrev pub IsFrameAt : List Kept → Frame → Type 0
IsFrameAt clauses frame = frame.cubes ≡ cubes_from clauses frame.level

-- the clause is of at least this level, and copy 0 meets its cube
pub record IsExcluded (sys : System) (w : World) (level : ℕ) (kept : Kept) : Type 0 where
  pub high : level ≤ kept.level
  pub meets : Meets sys.sig w 0 kept.cube
