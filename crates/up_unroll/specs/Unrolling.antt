-- What a search for a violating run of a system answers.
use Rattle.std.specs.Prelude.{◌≡◌, ℕ, ◌+◌, ◌<◌, ◌≤◌, ◌++◌}
use Rattle.std.specs.List.{All}
use Rattle.fo_core.specs.declared.system.System.{System}
use Rattle.fo_core.specs.Asked.{least_queries}
use Rattle.fo_core.specs.Finds.{IsLight}
use Rattle.fo_min.specs.declared.found.Excess.{Excess}
use Rattle.fo_min.specs.Found.{IsExcess}
use Rattle.up_claims.specs.declared.kind.Kind.TheVariants.{Unroll}
use Rattle.up_claims.specs.RunQueries.{run_query, run_queries, HasNoRunOf, IsLeastRun}
use Rattle.up_unroll.specs.declared.unrolling.Unrolled.{Unrolled}
use Rattle.up_unroll.specs.declared.unrolling.Unrolled.TheVariants.{Run, NoRun, Over}

-- the first query of an unrolling that is above the limit: it is asked in the search for the least
-- run of `length` steps, and the queries of fewer steps have no world and are light
pub record IsUnrollExcess (sys : System) (limit steps : ℕ) (x : Excess) : Type 0 where
  pub length : ℕ
  pub within : length ≤ steps
  pub shorter : (j : ℕ) → j < length → HasNoRunOf sys j
  pub light : All (IsLight sys.sig limit) (run_queries sys length)
  pub excess : IsExcess sys.sig (run_query sys length) limit x

-- the least run, or that there is none, where all that was asked to find this is light; or the
-- first query that is above the limit
abbrev pub IsUnrolled : System → ℕ → ℕ → Unrolled → Type 0
IsUnrolled sys limit steps (Run w) =
    (k : ℕ) ×
    IsLeastRun sys steps k w ×
    All (IsLight sys.sig limit) (run_queries sys k ++ least_queries sys.sig (run_query sys k) w)
IsUnrolled sys limit steps NoRun =
    ((j : ℕ) → j ≤ steps → HasNoRunOf sys j) ×
    All (IsLight sys.sig limit) (run_queries sys (steps + 1))
IsUnrolled sys limit steps (Over kind x) = (kind ≡ Unroll) × IsUnrollExcess sys limit steps x
