-- What is looked at where a verdict is judged: the part of it that its worlds show by themselves, and the
-- queries that are to have no world.
use Rattle.std.specs.Prelude.{◌+◌, List, [], ◌∷◌, ◌++◌, Some, map, ⊤}
use Rattle.std.specs.List.{All}
use Rattle.fo_core.specs.declared.query.Query.{Query}
use Rattle.fo_core.specs.declared.signature.Sig.{Sig}
use Rattle.fo_core.specs.declared.system.System.{System}
use Rattle.fo_core.specs.Runs.{IsViolatingRun}
use Rattle.up_diagram.specs.Cubes.{IsCube}
use Rattle.up_claims.specs.declared.verdict.Kept.{Kept}
use Rattle.up_claims.specs.declared.verdict.Verdict.{Verdict}
use Rattle.up_claims.specs.declared.verdict.Verdict.TheVariants as verdict
use Rattle.up_claims.specs.Chains.{IsChain, steps_of_chain}
use Rattle.up_claims.specs.InferQueries.{seed_query, root_query, before_query}
use Rattle.up_claims.specs.RunQueries.{run_queries}
use Rattle.up_claims.specs.Verdicts.{cubes_of, cubes_from, frame_below, AreLeaves}

-- the clauses of a verdict are well-sorted
abbrev pub HasCubes : Sig → Verdict → Type 0
HasCubes sig (verdict.Safe frame clauses) = All (IsCube sig) (cubes_of clauses)
HasCubes sig (verdict.Bounded last clauses leaves) = All (IsCube sig) (cubes_of clauses)
HasCubes sig _ = ⊤

-- what of a verdict its worlds show by themselves, without a search
abbrev pub IsShown : System → Verdict → Type 0
IsShown sys (verdict.Unsafe w) = IsViolatingRun sys w
IsShown sys (verdict.NoUniversal links) = IsChain sys links
IsShown sys (verdict.Bounded last clauses leaves) = AreLeaves sys last clauses leaves
IsShown sys _ = ⊤

-- that no initial state meets a clause's cube
abbrev pub initial_queries : System → List Kept → List Query
initial_queries sys clauses = map (root_query sys) (cubes_of clauses)

-- The queries that are to have no world for the verdict to hold, in their order: of each clause that no
-- initial state meets its cube, of each that no step leads into it, that no state violates a safety;
-- and that there is no run, of fewer steps first.
abbrev pub judge_queries : System → Verdict → List Query
judge_queries sys (verdict.Safe frame clauses) =
    initial_queries sys clauses ++
    map (before_query sys (Some (cubes_of clauses))) (cubes_of clauses) ++
    seed_query sys (cubes_of clauses) [] ∷ []
judge_queries sys (verdict.Unsafe w) = []
judge_queries sys (verdict.NoUniversal links) = run_queries sys (steps_of_chain links + 1)
judge_queries sys (verdict.Bounded last clauses leaves) =
    initial_queries sys clauses ++
    map (λ (kept : Kept). before_query sys (frame_below clauses kept) kept.cube) clauses ++
    seed_query sys (cubes_from clauses last) [] ∷ []
judge_queries sys (verdict.Spent steps) = []
judge_queries sys (verdict.Over what weight) = []
judge_queries sys (verdict.NoRun k) = run_queries sys (k + 1)
