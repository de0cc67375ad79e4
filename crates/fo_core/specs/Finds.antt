-- What a search for a world answers.
use Rattle.std.specs.Prelude.{◌≡◌, ℕ, ◌<◌, ◌≤◌}
use Rattle.fo_core.specs.declared.finder.Found.{Found}
use Rattle.fo_core.specs.declared.finder.Found.TheVariants.{Model, Nothing, Over}
use Rattle.fo_core.specs.declared.order.Order.{Order}
use Rattle.fo_core.specs.declared.query.Query.{Query}
use Rattle.fo_core.specs.declared.signature.Sig.{Sig}
use Rattle.fo_core.specs.declared.system.System.{System}
use Rattle.fo_core.specs.declared.world.World.{World}
use Rattle.fo_core.specs.Queries.{IsQuery, MeetsQuery}
use Rattle.fo_core.specs.QueryWeight.{query_weight}
use Rattle.fo_core.specs.SortGraph.{ClaimsEdge, Rises}
use Rattle.fo_core.specs.Sorted.{IsSig}

-- what a search asks: a well-sorted signature, a query that is well-sorted for it, and an order that
-- rises along the sort graph of the signature and of the query's claims
pub record CanSearch (sys : System) (order : Order) (q : Query) : Type 0 where
  pub sig : IsSig sys.sig
  pub query : IsQuery sys.sig q
  pub rises : Rises (ClaimsEdge sys.sig q.claims) sys.sig.sorts order.numbers

-- some world meets the query
abbrev pub HasWorld : Sig → Query → Type 0
HasWorld sig q = (w : World) × MeetsQuery sig q w

-- no world over any finite nonempty domains meets the query
abbrev pub HasNoWorld : Sig → Query → Type 0
HasNoWorld sig q = (w : World) → ¬ MeetsQuery sig q w

-- the query weighs at most the limit
abbrev pub IsLight : Sig → ℕ → Query → Type 0
IsLight sig limit q = query_weight sig q ≤ limit

-- the answer to a query: its weight exactly where that is above the limit, else a world that meets it,
-- or that no world does
abbrev pub IsAnswer : Sig → Query → ℕ → Found → Type 0
IsAnswer sig q limit (Model w) = IsLight sig limit q × MeetsQuery sig q w
IsAnswer sig q limit Nothing = IsLight sig limit q × HasNoWorld sig q
IsAnswer sig q limit (Over weight) = (weight ≡ query_weight sig q) × (limit < weight)
