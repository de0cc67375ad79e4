-- Invariants that are told by the cubes which their clauses deny.
use Rattle.std.specs.Prelude.{List, [], Some}
use Rattle.std.specs.List.{All}
use Rattle.fo_core.specs.declared.system.System.{System}
use Rattle.up_diagram.specs.declared.cube.Cube.{Cube}
use Rattle.up_claims.specs.Blocked.{NoInitial, NoStep, NoSeed}

-- the clauses of the cubes are an invariant: no initial state meets a cube, no step leads into one from
-- a state that meets none of them, and no such state violates a safety
pub record AreInvariant (sys : System) (cubes : List Cube) : Type 0 where
  pub starts : All (NoInitial sys) cubes
  pub keeps : All (NoStep sys (Some cubes)) cubes
  pub safe : NoSeed sys cubes []
