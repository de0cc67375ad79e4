-- The list of ground terms, written out sort by sort.
use Rattle.std.specs.Prelude.{◌≡◌, ℕ, ◌+◌, ◌<◌, ◌≤◌, ◌==◌, cond, List, [], ◌∷◌, length, map, take, slice_index}
use Rattle.std.specs.List.{filter, flat_map, range_with_len}
use Rattle.std.specs.List.Sorted.{IsPermutation}
use Rattle.fo_core.specs.declared.signature.Sig.{Sig}
use Rattle.fo_core.specs.declared.signature.Symbol.{Symbol}
use Rattle.fo_core.specs.Tables.{symbol_at}
use Rattle.fo_core.specs.Tuples.{tuple_at}
use Rattle.fo_core.specs.Weights.{added, power}
use Rattle.fo_terms.specs.declared.terms.Ground.{Ground}
use Rattle.fo_core.specs.TermCounts.{leads_to, copies_of}
use Rattle.fo_terms.specs.Universe.{IsU32, spare}

-- the sorts in an order in which their numbers never fall
pub record IsRanking (numbers : List ℕ) (ranked : List ℕ) : Type 0 where
  pub sorts : IsPermutation (range_with_len 0 (length numbers)) ranked
  pub rising : (i j : ℕ) → i ≤ j → j < length ranked → slice_index numbers (slice_index ranked i) ≤ slice_index numbers (slice_index ranked j)

-- each sort's first place, where blocks of these sizes stand in this order
pub record AreFirsts (ranked sizes firsts : List ℕ) : Type 0 where
  pub one_each : length firsts ≡ length sizes
  pub each : (i : ℕ) → i < length ranked → slice_index firsts (slice_index ranked i) ≡ added (slice_index sizes) (take i ranked)

-- the numbers of the functions with values of sort t
abbrev pub function_numbers : Sig → ℕ → List ℕ
function_numbers sig t = filter (λ k. leads_to t (symbol_at sig k)) (range_with_len 0 (length sig.symbols))

-- the places that lie so far behind the first places of these sorts
abbrev pub raised : List ℕ → List ℕ → List ℕ → List ℕ
raised firsts [] xs = []
raised firsts (s ∷ ss) [] = []
raised firsts (s ∷ ss) (x ∷ xs) = (slice_index firsts s + x) ∷ raised firsts ss xs

-- the spare constant of a sort
abbrev pub spare_of : ℕ → Ground
spare_of t = record { symbol = spare; copy = 0; args = []; sort = t }

-- places of 32 bits for at least one term of each sort
pub record AreBases (firsts sizes : List ℕ) : Type 0 where
  pub one_each : length firsts ≡ length sizes
  pub some : (s : ℕ) → s < length sizes → 1 ≤ slice_index sizes s
  pub few : (s : ℕ) → s < length sizes → IsU32 (slice_index firsts s + slice_index sizes s)

-- where the sorts have these first places and numbers of terms
module _ (firsts sizes : List ℕ) where
  -- the places of the arguments with this number, in lexicographic order, where arguments have these
  -- sorts
  abbrev pub arguments_at : List ℕ → ℕ → List ℕ
  arguments_at ss j = raised firsts ss (tuple_at (map (slice_index sizes) ss) j)

  -- function k in copy c, applied to the arguments with this number
  abbrev pub application : ℕ → Symbol → ℕ → ℕ → Ground
  application k s c j = record { symbol = k; copy = c; args = arguments_at s.args j; sort = s.result }

  -- all applications of function k in copy c
  abbrev pub copy_block : ℕ → Symbol → ℕ → List Ground
  copy_block k s c = map (application k s c) (range_with_len 0 (power sizes s.args))

  -- all applications of function k, in so many copies where it is mutable
  abbrev pub function_block : ℕ → ℕ → Symbol → List Ground
  function_block copies k s = flat_map (copy_block k s) (range_with_len 0 (copies_of copies s))

  -- all terms of sort t
  abbrev pub sort_block : Sig → ℕ → ℕ → List Ground
  sort_block sig copies t = cond (length (function_numbers sig t) == 0) (spare_of t ∷ []) (flat_map (λ k. function_block copies k (symbol_at sig k)) (function_numbers sig t))
