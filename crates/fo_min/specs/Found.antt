-- What a search for the least world answers.
use Rattle.std.specs.Prelude.{◌≡◌, ℕ, ◌<◌, List}
use Rattle.std.specs.List.{All}
use Rattle.fo_core.specs.declared.query.Query.{Query}
use Rattle.fo_core.specs.declared.signature.Sig.{Sig}
use Rattle.fo_core.specs.Finds.{HasNoWorld, IsLight}
use Rattle.fo_core.specs.QueryWeight.{query_weight}
use Rattle.fo_core.specs.Asked.{IsAsked, least_queries}
use Rattle.fo_core.specs.Least.{IsLeast}
use Rattle.fo_min.specs.declared.found.Excess.{Excess}
use Rattle.fo_min.specs.declared.found.Least.{Least}
use Rattle.fo_min.specs.declared.found.Least.TheVariants.{Model, Nothing, Over}

-- the first query of the search that is above the limit, with its weight: those before it are light
pub record IsExcess (sig : Sig) (q : Query) (limit : ℕ) (x : Excess) : Type 0 where
  pub before : List Query
  pub asked : IsAsked sig q before x.query
  pub light : All (IsLight sig limit) before
  pub weight : x.weight ≡ query_weight sig x.query
  pub above : limit < x.weight

-- the least world, where no query of the search for it is above the limit; that no world meets the
-- query, where this isn't above the limit; or the first query of the search that is
abbrev pub IsFoundLeast : Sig → Query → ℕ → Least → Type 0
IsFoundLeast sig q limit (Model w) =
    IsLeast sig q w × All (IsLight sig limit) (least_queries sig q w)
IsFoundLeast sig q limit Nothing = HasNoWorld sig q × IsLight sig limit q
IsFoundLeast sig q limit (Over x) = IsExcess sig q limit x
