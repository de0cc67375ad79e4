-- What pushing a clause answers.
use Rattle.std.specs.Prelude.{ℕ, List, Some}
use Rattle.std.specs.List.{All}
use Rattle.fo_core.specs.declared.system.System.{System}
use Rattle.fo_core.specs.declared.world.World.{World}
use Rattle.fo_core.specs.Asked.{least_queries}
use Rattle.fo_core.specs.Finds.{HasNoWorld, IsLight}
use Rattle.fo_core.specs.Least.{IsLeast}
use Rattle.up_claims.specs.InferAsked.{IsPushAsked, IsFirstAbove}
use Rattle.up_claims.specs.InferQueries.{before_query}
use Rattle.up_diagram.specs.declared.cube.Cube.{Cube}
use Rattle.up_push.specs.declared.pushing.Pushing.{Pushing}
use Rattle.up_push.specs.declared.pushing.Pushing.TheVariants.{Holds, Fails, Over}

module _ (sys : System) (limit : ℕ) (frame : List Cube) (cube : Cube) where
  -- no step leads from the frame into the cube, and the query that tells this isn't above the limit
  pub record IsPushed : Type 0 where
    pub none : HasNoWorld sys.sig (before_query sys (Some frame) cube)
    pub light : IsLight sys.sig limit (before_query sys (Some frame) cube)

  -- the least step from the frame into the cube, found by queries that aren't above the limit
  pub record IsLeastInto (w : World) : Type 0 where
    pub least : IsLeast sys.sig (before_query sys (Some frame) cube) w
    pub light : All (IsLight sys.sig limit) (least_queries sys.sig (before_query sys (Some frame) cube) w)

  -- that there is no step; the least step; or the first query that is above the limit, with what it is asked
  -- for
  abbrev pub IsPushing : Pushing → Type 0
  IsPushing Holds = IsPushed
  IsPushing (Fails w) = IsLeastInto w
  IsPushing (Over what x) = IsFirstAbove sys.sig (IsPushAsked sys frame cube) limit what x.query x.weight
