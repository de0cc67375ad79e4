-- What a block of a cube answers.
use Rattle.std.specs.Prelude.{ℕ, List, Option}
use Rattle.std.specs.List.{All}
use Rattle.fo_core.specs.declared.query.Query.{Query}
use Rattle.fo_core.specs.declared.system.System.{System}
use Rattle.fo_core.specs.declared.world.World.{World}
use Rattle.fo_core.specs.Asked.{least_queries}
use Rattle.fo_core.specs.Finds.{HasNoWorld, IsLight}
use Rattle.fo_core.specs.Least.{IsLeast}
use Rattle.up_block.specs.declared.blocking.Blocking.{Blocking}
use Rattle.up_block.specs.declared.blocking.Blocking.TheVariants.{Blocked, Initial, Step, Over}
use Rattle.up_claims.specs.declared.kind.Kind.{Kind}
use Rattle.up_claims.specs.Blocked.{IsBlocked, IsPass}
use Rattle.up_claims.specs.InferAsked.{IsBlockAsked, IsFirstAbove}
use Rattle.up_claims.specs.InferQueries.{root_query, before_query}
use Rattle.up_diagram.specs.declared.cube.Cube.{Cube}

module _ (sys : System) (limit : ℕ) (frame : Option (List Cube)) (cube : Cube) where
  -- the cube is blocked, one pass over its literals leaves this rest, and no query that a block of the cube
  -- asks is above the limit
  pub record IsReduced (rest : Cube) : Type 0 where
    pub blocked : IsBlocked sys frame cube
    pub pass : IsPass sys frame cube rest
    pub light : (before : List Query) (what : Kind) (q : Query) →
        IsBlockAsked sys frame cube before what q → IsLight sys.sig limit q

  -- the least initial state that meets the cube, found by queries that aren't above the limit
  pub record IsLeastRoot (w : World) : Type 0 where
    pub least : IsLeast sys.sig (root_query sys cube) w
    pub light : All (IsLight sys.sig limit) (least_queries sys.sig (root_query sys cube) w)

  -- no initial state meets the cube, and this is the least step into it, found by queries that aren't above
  -- the limit
  pub record IsLeastStep (w : World) : Type 0 where
    pub no_root : HasNoWorld sys.sig (root_query sys cube)
    pub root_light : IsLight sys.sig limit (root_query sys cube)
    pub least : IsLeast sys.sig (before_query sys frame cube) w
    pub light : All (IsLight sys.sig limit) (least_queries sys.sig (before_query sys frame cube) w)

  -- what is left of a blocked cube; the least initial state in it; the least step into it; or the first query
  -- that is above the limit, with what it is asked for
  abbrev pub IsBlocking : Blocking → Type 0
  IsBlocking (Blocked rest) = IsReduced rest
  IsBlocking (Initial w) = IsLeastRoot w
  IsBlocking (Step w) = IsLeastStep w
  IsBlocking (Over what x) = IsFirstAbove sys.sig (IsBlockAsked sys frame cube) limit what x.query x.weight
