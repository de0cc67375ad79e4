-- Sorts with their numbers.
use Rattle.std.specs.Prelude.{ℕ, List, length, map, slice_index}
use Rattle.std.specs.List.{range_with_len}
use Rattle.fo_terms.specs.declared.ranking.Entry.{Entry}

-- a sort with its number
abbrev pub entry_of : List ℕ → ℕ → Entry
entry_of numbers s = record { number = slice_index numbers s; sort = s }

-- all sorts with their numbers
abbrev pub entries_of : List ℕ → List Entry
entries_of numbers = map (entry_of numbers) (range_with_len 0 (length numbers))
