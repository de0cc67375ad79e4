-- What a trial says of a world: its elements have names, and table entries have named values.
use Rattle.std.specs.Prelude.{◌≡◌, ℕ, ◌<◌, ◌≤◌, cond, List, [], ◌∷◌, length, slice_index, slice_index_or}
use Rattle.fo_core.specs.declared.query.Query.{Query}
use Rattle.fo_core.specs.declared.signature.Sig.{Sig}
use Rattle.fo_core.specs.declared.signature.Symbol.{Symbol}
use Rattle.fo_core.specs.declared.world.World.{World}
use Rattle.fo_core.specs.Queries.{MeetsQuery}
use Rattle.fo_core.specs.Tables.{symbol_at, entry, range_of}
use Rattle.fo_core.specs.declared.cell.Cell.{Cell}
use Rattle.fo_core.specs.Asked.{no_cell}
use Rattle.fo_core.specs.Cells.{cells}

-- each element of the first sorts is named by a number below the size that is tried
pub record IsNaming (w : World) (sizes : List ℕ) (name : ℕ → ℕ → ℕ) : Type 0 where
  pub within : (s x : ℕ) → s < length sizes → x < slice_index sizes s → name s x < slice_index w.sizes s
  pub covers : (s y : ℕ) → s < length sizes → y < slice_index w.sizes s → (x : ℕ) × (x < slice_index sizes s) × (name s x ≡ y)

-- the elements that these numbers name
abbrev pub named : (ℕ → ℕ → ℕ) → List ℕ → List ℕ → List ℕ
named name [] xs = []
named name (s ∷ ss) [] = []
named name (s ∷ ss) (x ∷ xs) = name s x ∷ named name ss xs

-- a truth value is itself, an element is named
abbrev pub named_value : (ℕ → ℕ → ℕ) → Symbol → ℕ → ℕ
named_value name s v = cond s.relation v (name s.result v)

module _ (sig : Sig) where
  -- the entry has the named value
  abbrev pub IsEntry : World → (ℕ → ℕ → ℕ) → Cell → ℕ → Type 0
  IsEntry w name c v = entry sig w c.copy c.symbol (named name (symbol_at sig c.symbol).args c.args) ≡ named_value name (symbol_at sig c.symbol) v

  -- the first entries have these values
  abbrev pub HasValues : World → ℕ → List ℕ → (ℕ → ℕ → ℕ) → List ℕ → Type 0
  HasValues w copies sizes name values = (k : ℕ) → k < length values → IsEntry w name (slice_index_or (cells sig sizes copies) k no_cell) (slice_index values k)

  -- sizes and values that can be tried: of the first sorts, and once all sorts have sizes of the first entries
  pub record CanTry (copies : ℕ) (sizes values : List ℕ) : Type 0 where
    pub sorts : length sizes ≤ sig.sorts
    pub all_sorts : (k : ℕ) → k < length values → length sizes ≡ sig.sorts
    pub entries : length values ≤ length (cells sig sizes copies)
    pub in_range : (k : ℕ) → k < length values → slice_index values k < range_of sizes (symbol_at sig (slice_index_or (cells sig sizes copies) k no_cell).symbol)

  -- the world meets the query, and its elements and entries are as tried
  pub record MeetsTrial (q : Query) (sizes values : List ℕ) (w : World) : Type 0 where
    pub meets : MeetsQuery sig q w
    pub name : ℕ → ℕ → ℕ
    pub naming : IsNaming w sizes name
    pub entries : HasValues w q.copies sizes name values
