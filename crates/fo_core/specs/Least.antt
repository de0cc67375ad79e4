-- The least of the worlds that meet a query.
use Rattle.std.specs.Prelude.{ℕ, List, ◌++◌}
use Rattle.std.specs.List.{flat_map}
use Rattle.fo_core.specs.declared.query.Query.{Query}
use Rattle.fo_core.specs.declared.signature.Sig.{Sig}
use Rattle.fo_core.specs.declared.world.Table.{Table}
use Rattle.fo_core.specs.declared.world.World.{World}
use Rattle.fo_core.specs.Queries.{MeetsQuery}
use Rattle.fo_core.specs.SortGraph.{ComesFirst}

-- the values of these tables, one table behind the other
abbrev pub table_values : List Table → List ℕ
table_values tables = flat_map (λ (t : Table). t.values) tables

-- the values of all tables of a world: of the fixed ones, and then copy by copy
abbrev pub world_values : World → List ℕ
world_values w = table_values w.fixed ++ flat_map table_values w.copies

-- How many elements each sort has, and then the values of all tables. Worlds of one signature and of as
-- many copies are compared by these numbers in lexicographic order, and so by their sizes first.
abbrev pub numbers_of : World → List ℕ
numbers_of w = w.sizes ++ world_values w

-- the world meets the query, and comes first of all worlds that do
pub record IsLeast (sig : Sig) (q : Query) (w : World) : Type 0 where
  pub meets : MeetsQuery sig q w
  pub first : (v : World) → MeetsQuery sig q v → ComesFirst (numbers_of w) (numbers_of v)
