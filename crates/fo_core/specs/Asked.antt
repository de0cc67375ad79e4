-- The queries of a search for the least world, in their order: sizes are tried sort by sort, each from 1 on,
-- and then values entry by entry, each from 0 on.
use Rattle.std.specs.Prelude.{◌≡◌, ◌⊎◌, ℕ, ◌+◌, ◌<◌, ◌≤◌, Bool, true, false, cond, List, [], ◌∷◌, ◌++◌, length, map, take, slice_index, slice_index_or}
use Rattle.std.specs.List.{flat_map, range_with_len}
use Rattle.fo_core.specs.declared.query.Query.{Query}
use Rattle.fo_core.specs.declared.signature.Sig.{Sig}
use Rattle.fo_core.specs.declared.world.World.{World}
use Rattle.fo_core.specs.Finds.{HasWorld, HasNoWorld}
use Rattle.fo_core.specs.Tables.{symbol_at}
use Rattle.fo_core.specs.declared.cell.Cell.{Cell}
use Rattle.fo_core.specs.Cells.{cells}
use Rattle.fo_core.specs.Least.{world_values}
use Rattle.fo_core.specs.Trials.{trial}

-- what stands where a list has no place
abbrev pub no_cell : Cell
no_cell = record { symbol = 0; copy = 0; args = [] }

module _ (sig : Sig) (q : Query) where
  -- whether table entry k is a relation's, where the sorts have these sizes
  abbrev pub is_relation_at : List ℕ → ℕ → Bool
  is_relation_at sizes k = (symbol_at sig (slice_index_or (cells sig sizes q.copies) k no_cell).symbol).relation

  -- behind sorts of these sizes, the next one has n elements in some world, and fewer in none
  pub record IsNextSize (sizes : List ℕ) (n : ℕ) : Type 0 where
    pub positive : 1 ≤ n
    pub some : HasWorld sig (trial sig q (sizes ++ n ∷ []) [])
    pub fewer : (m : ℕ) → 1 ≤ m → m < n → HasNoWorld sig (trial sig q (sizes ++ m ∷ []) [])

  -- so of each of these sizes
  abbrev pub AreNextSizes : List ℕ → Type 0
  AreNextSizes sizes = (s : ℕ) → s < length sizes → IsNextSize (take s sizes) (slice_index sizes s)

  -- behind entries with these values, the next one, a relation's, is false in some world and then 0; or it is
  -- false in none, and 1
  abbrev pub IsNextTruth : List ℕ → List ℕ → ℕ → Type 0
  IsNextTruth sizes values v =
      ((v ≡ 0) × HasWorld sig (trial sig q sizes (values ++ 0 ∷ [])))
      ⊎ ((v ≡ 1) × HasNoWorld sig (trial sig q sizes (values ++ 0 ∷ [])))

  -- the next one, a function's, is this element in some world, and a lesser one in none
  pub record IsNextElement (sizes values : List ℕ) (v : ℕ) : Type 0 where
    pub some : HasWorld sig (trial sig q sizes (values ++ v ∷ []))
    pub lesser : (u : ℕ) → u < v → HasNoWorld sig (trial sig q sizes (values ++ u ∷ []))

  -- one of the two
  abbrev pub IsNextValue : Bool → List ℕ → List ℕ → ℕ → Type 0
  IsNextValue true sizes values v = IsNextTruth sizes values v
  IsNextValue false sizes values v = IsNextElement sizes values v

  -- so of each of these values
  abbrev pub AreNextValues : List ℕ → List ℕ → Type 0
  AreNextValues sizes values = (k : ℕ) → k < length values → IsNextValue (is_relation_at sizes k) sizes (take k values) (slice_index values k)

  -- how many queries settle an entry's value: a relation's one, a function's all up to the value
  abbrev pub tried : Bool → ℕ → ℕ
  tried relation v = cond relation 1 (v + 1)

  -- the trials of so many sizes of the next sort
  abbrev pub size_trials : List ℕ → ℕ → List Query
  size_trials sizes n = map (λ m. trial sig q (sizes ++ (m + 1) ∷ []) []) (range_with_len 0 n)

  -- the trials of so many values of the next entry
  abbrev pub value_trials : List ℕ → List ℕ → ℕ → List Query
  value_trials sizes values n = map (λ v. trial sig q sizes (values ++ v ∷ [])) (range_with_len 0 n)

  -- all trials that settle these sizes and values, behind the query itself
  abbrev pub queries_for : List ℕ → List ℕ → List Query
  queries_for sizes values =
      q ∷
      flat_map (λ s. size_trials (take s sizes) (slice_index sizes s)) (range_with_len 0 (length sizes)) ++
      flat_map (λ k. value_trials sizes (take k values) (tried (is_relation_at sizes k) (slice_index values k))) (range_with_len 0 (length values))

  -- all queries of a search that ends with this world
  abbrev pub least_queries : World → List Query
  least_queries w = queries_for w.sizes (world_values w)

  -- The search asks these queries, and then the last one: the query itself; once it has a world, sizes, and with all
  -- sizes known values. Each trial comes where those before it for the same sort or entry have no world.
  pub data IsAsked : List Query → Query → Type 0 where
    at_first : IsAsked [] q
    for_size : (sizes : List ℕ) (n : ℕ) → HasWorld sig q → AreNextSizes sizes → length sizes < sig.sorts →
        ((m : ℕ) → m < n → HasNoWorld sig (trial sig q (sizes ++ (m + 1) ∷ []) [])) →
        IsAsked (queries_for sizes [] ++ size_trials sizes n) (trial sig q (sizes ++ (n + 1) ∷ []) [])
    for_value : (sizes values : List ℕ) (v : ℕ) → HasWorld sig q → AreNextSizes sizes → length sizes ≡ sig.sorts → AreNextValues sizes values → length values < length (cells sig sizes q.copies) →
        (is_relation_at sizes (length values) ≡ true → v ≡ 0) →
        ((u : ℕ) → u < v → HasNoWorld sig (trial sig q sizes (values ++ u ∷ []))) →
        IsAsked (queries_for sizes values ++ value_trials sizes values v) (trial sig q sizes (values ++ v ∷ []))
