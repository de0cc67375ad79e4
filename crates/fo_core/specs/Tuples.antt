-- Tuples of elements below some sizes, in lexicographic order. How many there are is `tuples`, and the
-- number of one is `place` (Tables).
use Rattle.std.specs.Prelude.{ℕ, ◌/◌, ◌%◌, List, [], ◌∷◌, map}
use Rattle.std.specs.List.{flat_map, range_with_len}
use Rattle.fo_core.specs.Tables.{tuples}

-- the tuple of elements below these sizes that has this number in lexicographic order
abbrev pub tuple_at : List ℕ → ℕ → List ℕ
tuple_at [] j = []
tuple_at (n ∷ ns) j = j / tuples ns ∷ tuple_at ns (j % tuples ns)

-- all tuples of elements below these sizes, in lexicographic order
abbrev pub all_tuples : List ℕ → List (List ℕ)
all_tuples [] = [] ∷ []
all_tuples (n ∷ ns) = flat_map (λ x. map (λ xs. x ∷ xs) (all_tuples ns)) (range_with_len 0 n)
