-- How far a search for the least world has come.
use Rattle.std.specs.Prelude.{◌≡◌, ℕ, ◌<◌, Bool, List, [], ◌∷◌, ◌++◌, length, take}
use Rattle.std.specs.Prelude.{slice_index, slice_index_or}
use Rattle.std.specs.List.{All}
use Rattle.fo_core.specs.declared.cell.Cell.{Cell}
use Rattle.fo_core.specs.declared.query.Query.{Query}
use Rattle.fo_core.specs.declared.signature.Sig.{Sig}
use Rattle.fo_core.specs.declared.world.World.{World}
use Rattle.fo_core.specs.Asked.{no_cell, AreNextSizes, AreNextValues, is_relation_at}
use Rattle.fo_core.specs.Asked.{tried, size_trials, value_trials}
use Rattle.fo_core.specs.Cells.{cells}
use Rattle.fo_core.specs.Finds.{CanSearch, HasNoWorld, HasWorld, IsLight}
use Rattle.fo_core.specs.Queries.{MeetsQuery}
use Rattle.fo_core.specs.QueryWeight.{query_weight}
use Rattle.fo_core.specs.Tables.{range_of, symbol_at}
use Rattle.fo_core.specs.Trials.{trial}
use Rattle.fo_min.specs.declared.found.Excess.{Excess}
use Rattle.fo_min.specs.declared.found.Least.{Least}
use Rattle.fo_min.specs.declared.search.Answer.{Answer}
use Rattle.fo_min.specs.declared.search.Answer.TheVariants as Answers
use Rattle.fo_min.specs.declared.search.Entries.{Entries}
use Rattle.fo_min.specs.declared.search.NextSize.{NextSize}
use Rattle.fo_min.specs.declared.search.NextSize.TheVariants as Sizes
use Rattle.fo_min.specs.declared.search.NextValue.{NextValue}
use Rattle.fo_min.specs.declared.search.NextValue.TheVariants as Values
use Rattle.fo_min.specs.declared.search.Numbers.{Numbers}
use Rattle.fo_min.specs.declared.search.Numbers.TheVariants as All_of
use Rattle.fo_min.specs.declared.search.Search.{Search}
use Rattle.fo_min.specs.declared.search.Sizes.{Sizes as AllSizes}
use Rattle.fo_min.specs.declared.search.Sizes.TheVariants as Every
use Rattle.fo_min.specs.Found.{IsExcess, IsFoundLeast}

-- the place is one in the table of a symbol of the signature
abbrev pub HasSymbol : Sig → Cell → Type 0
HasSymbol sig c = c.symbol < length sig.symbols

-- the place of a tuple in the table of a symbol in a copy
abbrev pub cell_at : ℕ → ℕ → List ℕ → Cell
cell_at k d xs = record { symbol = k; copy = d; args = xs }

-- the values of table entry k are below this, where the sorts have these sizes
abbrev pub range_at : Sig → Query → List ℕ → ℕ → ℕ
range_at sig q sizes k =
    range_of sizes (symbol_at sig (slice_index_or (cells sig sizes q.copies) k no_cell).symbol)

-- a world that meets the query, or that there is none, where the query is light; or its weight,
-- where this is above the limit
abbrev pub IsQueryAnswer : Sig → ℕ → Query → Answer → Type 0
IsQueryAnswer sig limit p (Answers.Met w) = MeetsQuery sig p w × IsLight sig limit p
IsQueryAnswer sig limit p Answers.Nothing = HasNoWorld sig p × IsLight sig limit p
IsQueryAnswer sig limit p (Answers.Over x) =
    (x.query ≡ p) × (x.weight ≡ query_weight sig p) × (limit < x.weight)

-- these first sizes and values are settled, and what was asked for that is light
pub record IsSettled (sig : Sig) (q : Query) (limit : ℕ) (sizes values : List ℕ) : Type 0 where
  pub some : HasWorld sig q
  pub next_sizes : AreNextSizes sig q sizes
  pub next_values : AreNextValues sig q sizes values
  pub light : IsLight sig limit q
  pub light_sizes : (s : ℕ) → s < length sizes →
      All (IsLight sig limit) (size_trials sig q (take s sizes) (slice_index sizes s))
  pub light_values : (k : ℕ) → k < length values →
      All (IsLight sig limit)
      (value_trials sig q sizes (take k values) (tried sig q (is_relation_at sig q sizes k) (slice_index values k)))

-- ---- in a search

-- its signature and its query
abbrev pub sig_of : Search → Sig
sig_of s = s.sys.now.sig

abbrev pub query_of : Search → Query
query_of s = s.query.now

-- the query can be asked
abbrev pub IsSearch : Search → Type 0
IsSearch s = CanSearch s.sys.now s.order.now s.query.now

-- how many sorts there are
abbrev pub sorts_of : Search → ℕ
sorts_of s = (sig_of s).sorts

-- the world meets the query, and its first sorts have these sizes
abbrev pub HasSizes : Search → List ℕ → World → Type 0
HasSizes s sizes w = MeetsQuery (sig_of s) (trial (sig_of s) (query_of s) sizes []) w

module _ (s : Search) (limit : ℕ) where
  -- these first sizes and values are settled
  abbrev pub AreSettled : List ℕ → List ℕ → Type 0
  AreSettled sizes values = IsSettled (sig_of s) (query_of s) limit sizes values

  -- whether some world has these sizes and then this one
  abbrev pub IsSizeAnswer : List ℕ → ℕ → Answer → Type 0
  IsSizeAnswer sizes n answer =
      IsQueryAnswer (sig_of s) limit (trial (sig_of s) (query_of s) (sizes ++ n ∷ []) []) answer

  -- the first query of the search that is above the limit
  abbrev pub IsAbove : Excess → Type 0
  IsAbove x = IsExcess (sig_of s) (query_of s) limit x

  -- one more size is settled, and the world has them; or a trial is above the limit
  abbrev pub IsSizeFound : List ℕ → NextSize → Type 0
  IsSizeFound sizes (Sizes.Found n w) =
      AreSettled (sizes ++ n ∷ []) [] × HasSizes s (sizes ++ n ∷ []) w
  IsSizeFound sizes (Sizes.Over x) = IsAbove x

  -- all sizes are settled, and the world has them
  abbrev pub AreSizesFound : AllSizes → Type 0
  AreSizesFound (Every.Found sizes w) =
      AreSettled sizes [] × (length sizes ≡ sorts_of s) × HasSizes s sizes w
  AreSizesFound (Every.Over x) = IsAbove x

  -- all values are settled
  abbrev pub AreValuesFound : List ℕ → Numbers → Type 0
  AreValuesFound sizes (All_of.Found values) =
      AreSettled sizes values ×
      (length values ≡ length (cells (sig_of s) sizes (query_of s).copies))
  AreValuesFound sizes (All_of.Over x) = IsAbove x

  -- the least world or why there is none
  abbrev pub IsSearchAnswer : Least → Type 0
  IsSearchAnswer answer = IsFoundLeast (sig_of s) (query_of s) limit answer

-- ---- in a search whose sizes are settled

-- each sort has a size, and the places are those of all table entries
pub record AreEntries (e : Entries) : Type 0 where
  pub can : IsSearch e.search
  pub sorts : length e.sizes.now ≡ sorts_of e.search
  pub all : e.cells.now ≡ cells (sig_of e.search) e.sizes.now (query_of e.search).copies

-- whether the entry after these is a relation's
abbrev pub is_relation_next : Entries → List ℕ → Bool
is_relation_next e values =
    is_relation_at (sig_of e.search) (query_of e.search) e.sizes.now (length values)

-- the values of the entry after these are below this
abbrev pub range_next : Entries → List ℕ → ℕ
range_next e values = range_at (sig_of e.search) (query_of e.search) e.sizes.now (length values)

module _ (e : Entries) (limit : ℕ) where
  -- these first values are settled
  abbrev pub AreValuesSettled : List ℕ → Type 0
  AreValuesSettled values = AreSettled e.search limit e.sizes.now values

  -- whether some world has these values and then this one
  abbrev pub IsValueAnswer : List ℕ → ℕ → Answer → Type 0
  IsValueAnswer values v answer =
      IsQueryAnswer (sig_of e.search) limit
      (trial (sig_of e.search) (query_of e.search) e.sizes.now (values ++ v ∷ [])) answer

  -- one more value is settled; or a trial is above the limit
  abbrev pub IsValueFound : List ℕ → NextValue → Type 0
  IsValueFound values (Values.Found v) = AreValuesSettled (values ++ v ∷ [])
  IsValueFound values (Values.Over x) = IsAbove e.search limit x

  -- all values are settled; or a trial is above the limit
  abbrev pub AreEntriesFound : Numbers → Type 0
  AreEntriesFound answer = AreValuesFound e.search limit e.sizes.now answer
