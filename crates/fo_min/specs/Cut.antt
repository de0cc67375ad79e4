-- A list of values, cut into tables.
use Rattle.std.specs.Prelude.{ℕ, zero, suc, ◌<◌, Bool, List, [], ◌∷◌, length, map, sum, take, drop}
use Rattle.std.specs.Prelude.{slice_index, slice_index_or}
use Rattle.std.specs.List.{filter}
use Rattle.fo_core.specs.declared.signature.Sig.{Sig}
use Rattle.fo_core.specs.declared.signature.Symbol.{Symbol}
use Rattle.fo_core.specs.declared.world.Table.{Table}
use Rattle.fo_core.specs.Tables.{tuples, arg_sizes, range_of, is_like, symbol_at}
use Rattle.fo_core.specs.Asked.{no_cell}
use Rattle.fo_core.specs.Cells.{cells}

-- how many values the table of a symbol has
abbrev pub value_count : List ℕ → Symbol → ℕ
value_count sizes s = tuples (arg_sizes sizes s)

-- how many values the tables of the symbols of a kind have
abbrev pub counts_like : List ℕ → List Symbol → Bool → List ℕ
counts_like sizes symbols mutable = map (value_count sizes) (filter (is_like mutable) symbols)

-- tables with these numbers of values, one after the other
abbrev pub cut : List ℕ → List ℕ → List Table
cut [] vs = []
cut (n ∷ ns) vs = record { values = take n vs } ∷ cut ns (drop n vs)

-- such tables for each of the copies
abbrev pub cut_copies : List ℕ → ℕ → List ℕ → List (List Table)
cut_copies ns zero vs = []
cut_copies ns (suc copies) vs = cut ns (take (sum ns) vs) ∷ cut_copies ns copies (drop (sum ns) vs)

-- the values are in the ranges of their entries
abbrev pub AreInRange : Sig → ℕ → List ℕ → List ℕ → Type 0
AreInRange sig copies sizes values =
    (k : ℕ) → k < length values →
    slice_index values k < range_of sizes (symbol_at sig (slice_index_or (cells sig sizes copies) k no_cell).symbol)
