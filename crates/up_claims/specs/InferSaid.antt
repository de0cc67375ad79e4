-- What the queries of property-directed reachability are said to be: well-sorted, of the meaning that they
-- have, and stratified where the system is for inference.
use Rattle.std.specs.Prelude.{◌↔◌, ℕ, List}
use Rattle.fo_core.specs.declared.order.Purpose.TheVariants.{Infer}
use Rattle.fo_core.specs.declared.query.Query.{Query}
use Rattle.fo_core.specs.declared.system.System.{System}
use Rattle.fo_core.specs.declared.world.World.{World}
use Rattle.fo_core.specs.Queries.{IsQuery, MeetsQuery}
use Rattle.fo_core.specs.SortGraph.{SortEdge, ClaimsEdge, Rises}

-- each numbering of the sorts that rises along the edges that inference looks at rises along those of
-- the query's claims
abbrev pub RisesToo : System → Query → Type 0
RisesToo sys q =
    (numbers : List ℕ) →
    Rises (SortEdge sys Infer) sys.sig.sorts numbers →
    Rises (ClaimsEdge sys.sig q.claims) sys.sig.sorts numbers

-- the query is well-sorted, the worlds that meet it are these, and numberings rise along its edges
-- where they rise along the system's
pub record AsksFor (sys : System) (q : Query) (Asked : World → Type 0) : Type 0 where
  pub sorted : IsQuery sys.sig q
  pub meaning : (w : World) → MeetsQuery sys.sig q w ↔ Asked w
  pub rises : RisesToo sys q
