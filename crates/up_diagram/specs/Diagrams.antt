-- The diagram of a state: the cube that says all of it.
use Rattle.std.specs.Prelude.{◌≡◌, ℕ, ◌+◌, ◌<◌, ◌^◌, ◌&&◌, cond, nat_eq, nat_lt, List, [], ◌∷◌, ◌++◌, length, map, take, slice_index}
use Rattle.std.specs.List.{flat_map, range_with_len, sum}
use Rattle.fo_core.specs.declared.signature.Sig.{Sig}
use Rattle.fo_core.specs.declared.world.World.{World}
use Rattle.fo_core.specs.Tables.{symbol_at, entry, arg_sizes, Fits}
use Rattle.fo_core.specs.Sorted.{IsSig}
use Rattle.fo_core.specs.Trials.{element_sorts}
use Rattle.fo_core.specs.Tuples.{all_tuples}
use Rattle.up_diagram.specs.declared.cube.Flat.{Flat}
use Rattle.up_diagram.specs.declared.cube.Flat.TheVariants.{Differ, Fact, Value}
use Rattle.up_diagram.specs.declared.cube.Cube.{Cube}

-- Each element has a variable, sort by sort.
-- the variable of element x of sort s
abbrev pub variable_of : List ℕ → ℕ → ℕ → ℕ
variable_of sizes s x = sum (take s sizes) + x

-- the variables of elements of these sorts
abbrev pub variables_of : List ℕ → List ℕ → List ℕ → List ℕ
variables_of sizes [] xs = []
variables_of sizes (s ∷ ss) [] = []
variables_of sizes (s ∷ ss) (x ∷ xs) = variable_of sizes s x ∷ variables_of sizes ss xs

-- variables i and j differ, where j is a later one of the same sort
abbrev pub pair_at : List ℕ → ℕ → ℕ → List Flat
pair_at sorts i j =
    cond (nat_lt i j && nat_eq (slice_index sorts i) (slice_index sorts j)) (Differ i j ∷ []) []

-- variable i and each later one of its sort differ
abbrev pub differ_from : List ℕ → ℕ → List Flat
differ_from sorts i = flat_map (pair_at sorts i) (range_with_len 0 (length sorts))

-- any two variables of one sort differ
abbrev pub differ : List ℕ → List Flat
differ sorts = flat_map (differ_from sorts) (range_with_len 0 (length sorts))

-- what the symbol says of a tuple of elements in copy c
abbrev pub fact_of : Sig → World → ℕ → ℕ → List ℕ → Flat
fact_of sig w c k xs =
    cond (symbol_at sig k).relation
    (Fact (nat_eq (entry sig w c k xs) 1) k (variables_of w.sizes (symbol_at sig k).args xs))
    (Value k (variables_of w.sizes (symbol_at sig k).args xs)
    (variable_of w.sizes (symbol_at sig k).result (entry sig w c k xs)))

-- what the symbol says of all tuples, in lexicographic order
abbrev pub facts_of : Sig → World → ℕ → ℕ → List Flat
facts_of sig w c k = map (fact_of sig w c k) (all_tuples (arg_sizes w.sizes (symbol_at sig k)))

-- the cube that says all of copy c
abbrev pub diagram : Sig → World → ℕ → Cube
diagram sig w c = record {
  sorts = element_sorts w.sizes;
  lits =
      differ (element_sorts w.sizes)
      ++ flat_map (facts_of sig w c) (range_with_len 0 (length sig.symbols));
}

-- copy c of the world may be read, and its elements have numbers of 32 bits all together
pub record CanDescribe (sig : Sig) (w : World) (c : ℕ) : Type 0 where
  pub signature : IsSig sig
  pub fits : Fits sig w
  pub copy : c < length w.copies
  pub few : sum w.sizes < 2 ^ 32

-- inside the crate

-- for each sort the variable of its first element
pub record AreFirsts (sizes firsts : List ℕ) : Type 0 where
  pub count : length firsts ≡ length sizes
  pub each : (s : ℕ) → s < length sizes → slice_index firsts s ≡ sum (take s sizes)
