-- The elements that ground terms name, under a reading of the symbols.
use Rattle.std.specs.Prelude.{ℕ, zero, suc, cond, ◌==◌, List, [], map, length, slice_index}
use Rattle.fo_terms.specs.declared.terms.Ground.{Ground}
use Rattle.fo_terms.specs.Universe.{spare}

module _ (reads : ℕ → ℕ → List ℕ → ℕ) where
  -- the value of a ground term, from the values of the terms at all places
  abbrev pub ground_value : List ℕ → Ground → ℕ
  ground_value vs g = cond (g.symbol == spare) 0 (reads g.copy g.symbol (map (slice_index vs) g.args))

  -- all values, recomputed so often
  abbrev pub rounds : ℕ → List Ground → List ℕ
  rounds zero ts = []
  rounds (suc k) ts = map (ground_value (rounds k ts)) ts

  -- once for each term is often enough, as arguments stand earlier
  abbrev pub ground_values : List Ground → List ℕ
  ground_values ts = rounds (length ts) ts
