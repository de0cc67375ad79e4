-- The queries of violating runs, and which run they find.
use Rattle.std.specs.Prelude.{ℕ, ◌+◌, ◌<◌, ◌≤◌, List, map}
use Rattle.std.specs.List.{range_with_len}
use Rattle.fo_core.specs.declared.query.Query.{Query}
use Rattle.fo_core.specs.declared.system.System.{System}
use Rattle.fo_core.specs.declared.world.World.{World}
use Rattle.fo_core.specs.Least.{numbers_of}
use Rattle.fo_core.specs.SortGraph.{ComesFirst}
use Rattle.up_claims.specs.Breaking.{IsViolatingRunOf}
use Rattle.up_claims.specs.Claims.{unroll_claims}

-- the query of a violating run of k steps
abbrev pub run_query : System → ℕ → Query
run_query sys k = record { copies = k + 1; claims = unroll_claims sys k }

-- the queries of violating runs of fewer than k steps
abbrev pub run_queries : System → ℕ → List Query
run_queries sys k = map (run_query sys) (range_with_len 0 k)

-- no violating run has k steps
abbrev pub HasNoRunOf : System → ℕ → Type 0
HasNoRunOf sys k = (w : World) → ¬ IsViolatingRunOf sys k w

-- the least of the violating runs of fewest steps, which are at most `steps`: it has k steps, no
-- violating run has fewer, and of those of k steps it comes first
pub record IsLeastRun (sys : System) (steps k : ℕ) (w : World) : Type 0 where
  pub within : k ≤ steps
  pub run : IsViolatingRunOf sys k w
  pub shortest : (j : ℕ) → j < k → HasNoRunOf sys j
  pub first : (v : World) → IsViolatingRunOf sys k v → ComesFirst (numbers_of w) (numbers_of v)
