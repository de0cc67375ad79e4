-- What is read off values of the variables: classes of ground terms, and tables of these.
use Rattle.std.specs.Prelude.{◌≡◌, ℕ, Bool, cond, List, [], ◌∷◌, map, length, slice_index, slice_index_or}
use Rattle.std.specs.List.{range_with_len}
use Rattle.fo_core.specs.declared.signature.Sig.{Sig}
use Rattle.fo_core.specs.declared.signature.Symbol.{Symbol}
use Rattle.fo_core.specs.declared.world.Table.{Table}
use Rattle.fo_core.specs.declared.world.World.{World}
use Rattle.fo_core.specs.Tables.{symbol_at}
use Rattle.fo_terms.specs.declared.terms.Universe.{Universe}
use Rattle.fo_ground.specs.declared.classes.Classes.{Classes}
use Rattle.fo_ground.specs.declared.layout.Layout.{Layout}
use Rattle.fo_ground.specs.Classes.{bit, class_entry, heads_of, class_of, class_count, class_table, class_tables, class_world}
use Rattle.fo_ground.specs.Layout.{slot, same_by, fact_by}
use Rattle.fo_core.specs.Tuples.{tuple_at}

-- by values of the variables
module _ (u : Universe) (lay : Layout) (v : ℕ → Bool) where
  -- the first terms of the classes of a sort
  abbrev pub heads_by : ℕ → List ℕ
  heads_by = heads_of u.terms (slot u lay) (same_by u lay v) (fact_by u lay v)

  -- the number of a term's class in its sort
  abbrev pub class_by : ℕ → ℕ
  class_by = class_of u.terms (slot u lay) (same_by u lay v) (fact_by u lay v)

  -- how many classes a sort has
  abbrev pub count_by : ℕ → ℕ
  count_by = class_count u.terms (slot u lay) (same_by u lay v) (fact_by u lay v)

  -- the value of a symbol in a copy for these terms
  abbrev pub entry_by : ℕ → ℕ → List ℕ → ℕ
  entry_by k c ps = cond (symbol_at lay.sig k).relation (bit (v (slot u lay k c ps))) (class_by (slot u lay k c ps))

  -- the value of a symbol in a copy for the classes in the tuple with this number
  abbrev pub value_by : ℕ → ℕ → ℕ → ℕ
  value_by c k i = class_entry u.terms (slot u lay) (same_by u lay v) (fact_by u lay v) c k (symbol_at lay.sig k) (tuple_at (map count_by (symbol_at lay.sig k).args) i)

  abbrev pub table_by : ℕ → ℕ → Symbol → Table
  table_by = class_table u.terms (slot u lay) (same_by u lay v) (fact_by u lay v)

  abbrev pub tables_by : Bool → ℕ → ℕ → List Symbol → List Table
  tables_by = class_tables u.terms (slot u lay) (same_by u lay v) (fact_by u lay v)

  abbrev pub world_by : Sig → ℕ → World
  world_by = class_world u.terms (slot u lay) (same_by u lay v) (fact_by u lay v)

  -- these are the classes
  pub record AreRead (c : Classes) : Type 0 where
    pub heads : c.heads ≡ map heads_by (range_with_len 0 lay.sig.sorts)
    pub sizes : c.sizes ≡ map count_by (range_with_len 0 lay.sig.sorts)
    pub numbers : c.numbers ≡ map class_by (range_with_len 0 (length u.terms))

-- of each of these sorts the first term of the class with this number
abbrev pub picked : List (List ℕ) → List ℕ → List ℕ → List ℕ
picked heads [] xs = []
picked heads (s ∷ ss) [] = []
picked heads (s ∷ ss) (x ∷ xs) = slice_index (slice_index_or heads s []) x ∷ picked heads ss xs
