-- A world that a search keeps, and which of its elements the named elements are.
use Rattle.std.specs.Prelude.{◌≡◌, ℕ, ◌+◌, ◌<◌, ◌≤◌, List, [], ◌∷◌, ◌++◌, length, Option, Some, None, ⊤}
use Rattle.std.specs.Prelude.{slice_index, slice_index_or}
use Rattle.fo_core.specs.declared.cell.Cell.{Cell}
use Rattle.fo_core.specs.declared.world.World.{World}
use Rattle.fo_core.specs.Asked.{no_cell}
use Rattle.fo_core.specs.Finds.{HasNoWorld, IsLight}
use Rattle.fo_core.specs.Queries.{MeetsQuery}
use Rattle.fo_core.specs.Trials.{trial}
use Rattle.fo_least.proofs.Naming.{IsNaming, IsEntry}
use Rattle.fo_min.specs.declared.known.Known.{Known}
use Rattle.fo_min.specs.declared.known.Next.{Next}
use Rattle.fo_min.specs.declared.known.Tried.{Tried}
use Rattle.fo_min.specs.declared.search.Entries.{Entries}
use Rattle.fo_min.specs.declared.search.Lesser.{Lesser}
use Rattle.fo_min.specs.declared.search.Lesser.TheVariants as Lessers
use Rattle.fo_min.specs.Search.{sig_of, query_of, range_next, AreValuesSettled}

-- the element that number x names, where each sort has a list of elements
abbrev pub element_of : List (List ℕ) → ℕ → ℕ → ℕ
element_of names s x = slice_index (slice_index_or names s []) x

-- numbers below `size` name the elements of a sort that has `most`
pub record IsSortNamed (size most : ℕ) (ys : List ℕ) : Type 0 where
  pub within : (x : ℕ) → x < size → slice_index ys x < most
  pub covers : (y : ℕ) → y < most → (x : ℕ) × (x < size) × (slice_index ys x ≡ y)

-- the element stands at one of the first places of the list
abbrev pub IsNamed : ℕ → List ℕ → ℕ → Type 0
IsNamed size ys y = (x : ℕ) × (x < size) × (slice_index ys x ≡ y)

module _ (e : Entries) where
  -- the place of the entry of this number
  abbrev pub cell_of : ℕ → Cell
  cell_of k = slice_index_or e.cells.now k no_cell

  -- the world meets the query of the search, and its elements have names
  pub record IsNamedWorld (w : World) (names : List (List ℕ)) : Type 0 where
    pub meets : MeetsQuery (sig_of e.search) (query_of e.search) w
    pub naming : IsNaming w e.sizes.now (element_of names)

  -- the entry of this number has the value, where elements are named so
  abbrev pub HasEntry : World → List (List ℕ) → ℕ → ℕ → Type 0
  HasEntry w names k v = IsEntry (sig_of e.search) w (element_of names) (cell_of k) v

  -- so have all these entries
  abbrev pub HasEntries : World → List (List ℕ) → List ℕ → Type 0
  HasEntries w names values =
      (k : ℕ) → k < length values → HasEntry w names k (slice_index values k)

  -- the world is one in which the first entries have these values
  pub record IsShown (values : List ℕ) (w : World) (names : List (List ℕ)) : Type 0 where
    pub is : IsNamedWorld w names
    pub entries : HasEntries w names values

  abbrev pub IsKnown : List ℕ → Known → Type 0
  IsKnown values k = IsShown values k.world k.names

  -- so it is, where there is a world
  abbrev pub MayKnow : List ℕ → Option Known → Type 0
  MayKnow values (Some k) = IsKnown values k
  MayKnow values None = ⊤

  -- the next value of the world, or where none is kept the last in range
  abbrev pub IsLast : List ℕ → ℕ → Option Known → Type 0
  IsLast values v (Some k) =
      (v < range_next e values) × IsKnown values k × HasEntry k.world k.names (length values) v
  IsLast values v None = v + 1 ≡ range_next e values

  -- up to which value trials are asked
  abbrev pub IsTried : List ℕ → Tried → Type 0
  IsTried values t = IsLast values t.most t.known

  -- no world has this value after these
  abbrev pub HasNoNext : List ℕ → ℕ → Type 0
  HasNoNext values v =
      HasNoWorld (sig_of e.search) (trial (sig_of e.search) (query_of e.search) e.sizes.now (values ++ v ∷ []))

  -- the least value that some world has, of those below `most`, and the world; or that there is none
  abbrev pub IsLesser : List ℕ → ℕ → Lesser → Type 0
  IsLesser values most (Lessers.Met v w) =
      (v < most) × ((u : ℕ) → u < v → HasNoNext values u) ×
      MeetsQuery (sig_of e.search) (trial (sig_of e.search) (query_of e.search) e.sizes.now (values ++ v ∷ [])) w
  IsLesser values most Lessers.Nothing = (u : ℕ) → u < most → HasNoNext values u

  module _ (limit : ℕ) where
    -- no trial of values is above the limit
    abbrev pub AreAllLight : Type 0
    AreAllLight =
        (values : List ℕ) → length values ≤ length e.cells.now →
        IsLight (sig_of e.search) limit (trial (sig_of e.search) (query_of e.search) e.sizes.now values)

    -- one more value is settled, and a world that is kept has it
    pub record IsNext (values : List ℕ) (n : Next) : Type 0 where
      pub settled : AreValuesSettled e limit (values ++ n.value ∷ [])
      pub known : MayKnow (values ++ n.value ∷ []) n.known
