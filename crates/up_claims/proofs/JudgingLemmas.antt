-- A verdict holds exactly where what its worlds are to show is so, and none of its queries has a world.
use Rattle.std.proofs.Common.{ℕ, zero, suc, ◌+◌, ◌-◌, ◌<◌, ◌≤◌, ◌↔◌, ◌⊎◌, inl, inr, List, [], ◌∷◌, ◌++◌, Some, length, get_or, map, refl, arith}
use Rattle.std.specs.List.{All, range_with_len}
use Rattle.std.specs.Prelude.{nat_le}
use Rattle.std.proofs.lemmas.Bool.{cases_lt}
use Rattle.std.proofs.lemmas.List.Elements.{All-append, All-filter}
use Rattle.fo_core.specs.declared.query.Query.{Query}
use Rattle.fo_core.specs.declared.system.System.{System}
use Rattle.fo_core.specs.declared.world.World.{World}
use Rattle.fo_core.specs.Finds.{HasNoWorld}
use Rattle.fo_core.specs.Runs.{IsViolatingRun}
use Rattle.fo_core.specs.Sorted.{IsSystem}
use Rattle.fo_core.proofs.ListFacts.{all_map, all_mapped, all_left, all_right, all_one, all_range, range_all}
use Rattle.up_diagram.specs.declared.cube.Cube.{Cube}
use Rattle.up_diagram.specs.Cubes.{IsCube}
use Rattle.up_claims.specs.declared.verdict.Kept.{Kept}
use Rattle.up_claims.specs.declared.verdict.Leave.{Leave}
use Rattle.up_claims.specs.declared.verdict.Verdict.{Verdict}
use Rattle.up_claims.specs.declared.verdict.Verdict.TheVariants as verdict
use Rattle.up_claims.specs.Blocked.{NoInitial, NoStep, NoSeed}
use Rattle.up_claims.specs.Frames.{IsFrame}
use Rattle.up_claims.specs.InferQueries.{seed_query, root_query, before_query}
use Rattle.up_claims.specs.Judging.{HasCubes, IsShown, judge_queries}
use Rattle.up_claims.specs.RunQueries.{run_query, run_queries, HasNoRunOf, IsLeastRun}
use Rattle.up_claims.specs.Verdicts.{cubes_of, cubes_from, printed_frame, frame_below, HasNoRunWithin, Holds, IsShortest}
use Rattle.up_claims.proofs.BlockedLemmas.{initial-by-query, step-by-query, seed-by-query}
use Rattle.up_claims.proofs.CubeInvariantLemmas.{invariant-there, invariant-back}
use Rattle.up_claims.proofs.UnrollLemmas.{meaning-unroll}

-- two facts that are one, of each element of a list that has a third
each : {X : Type 0} (K P Q : X → Type 0) → ((x : X) → K x → P x → Q x) → (xs : List X) → All K xs → All P xs → All Q xs
each K P Q h xs known all k d lt = h (get_or xs k d) (known k d lt) (all k d lt)

-- what holds of two lists of queries and one more query
module _ (P : Query → Type 0) (front behind : List Query) (last : Query) where
  three-from : All P (front ++ behind ++ last ∷ []) → All P front × All P behind × P last
  three-from h =
      let both = all_left P (front ++ behind) (last ∷ []) h in
      (all_left P front behind both, all_right P front behind both, (all_one P last).0 (all_right P (front ++ behind) (last ∷ []) h))

  three-to : All P front → All P behind → P last → All P (front ++ behind ++ last ∷ [])
  three-to a b c = All-append P (front ++ behind) (last ∷ []) (All-append P front behind a b) ((all_one P last).1 c)

module _ (sys : System) where
  abbrev N : Query → Type 0
  N = HasNoWorld sys.sig

  -- ---- runs
  run-by-query : (j : ℕ) → HasNoRunOf sys j ↔ N (run_query sys j)
  run-by-query j = (
    λ none w m. none w ((meaning-unroll sys j (run_query sys j) refl refl w).0 m),
    λ none w r. none w ((meaning-unroll sys j (run_query sys j) refl refl w).1 r),
  )

  pub runs-by-queries : (k : ℕ) → HasNoRunWithin sys k ↔ All N (run_queries sys (k + 1))
  runs-by-queries k = (
    λ none. all_mapped N (run_query sys) (range_with_len 0 (k + 1)) (all_range (λ j. N (run_query sys j)) (k + 1) (λ j lt. (run-by-query j).0 (none j (omega (arith, lt))))),
    λ all j le. (run-by-query j).1 (range_all (λ j. N (run_query sys j)) (k + 1) (all_map N (run_query sys) (range_with_len 0 (k + 1)) all) j (omega (arith, le))),
  )

  pub least-is-shortest : (steps k : ℕ) (w : World) → IsLeastRun sys steps k w → IsShortest sys w
  least-is-shortest steps k w h = record { run = h.run.run; shortest = λ v run. by_case v run (cases_lt (length v.copies) (length w.copies)) }
    where
      by_case : (v : World) → IsViolatingRun sys v → (length v.copies < length w.copies) ⊎ (length w.copies ≤ length v.copies) → length w.copies ≤ length v.copies
      by_case v run (inr le) = le
      by_case v run (inl lt) =
          absurd (h.shortest (length v.copies - 1) (omega (arith, lt, h.run.copies, run.run.fits.some_copy)) v
          (record { run = run; copies = omega (arith, run.run.fits.some_copy) }))

  module _ (is : IsSystem sys) where
    -- ---- cubes
    module _ (cubes : List Cube) (known : All (IsCube sys.sig) cubes) where
      starts-from : All (NoInitial sys) cubes → All N (map (root_query sys) cubes)
      starts-from h = all_mapped N (root_query sys) cubes (each (IsCube sys.sig) (NoInitial sys) (λ cube. N (root_query sys cube)) (λ cube k. (initial-by-query sys is cube k).0) cubes known h)

      starts-to : All N (map (root_query sys) cubes) → All (NoInitial sys) cubes
      starts-to h = each (IsCube sys.sig) (λ cube. N (root_query sys cube)) (NoInitial sys) (λ cube k. (initial-by-query sys is cube k).1) cubes known (all_map N (root_query sys) cubes h)

      keeps-from : All (NoStep sys (Some cubes)) cubes → All N (map (before_query sys (Some cubes)) cubes)
      keeps-from h =
          all_mapped N (before_query sys (Some cubes)) cubes
          (each (IsCube sys.sig) (NoStep sys (Some cubes)) (λ cube. N (before_query sys (Some cubes) cube)) (λ cube k. (step-by-query sys is (Some cubes) cube known k).0) cubes known h)

      keeps-to : All N (map (before_query sys (Some cubes)) cubes) → All (NoStep sys (Some cubes)) cubes
      keeps-to h =
          each (IsCube sys.sig) (λ cube. N (before_query sys (Some cubes) cube)) (NoStep sys (Some cubes)) (λ cube k. (step-by-query sys is (Some cubes) cube known k).1) cubes known
          (all_map N (before_query sys (Some cubes)) cubes h)

      seed-is : N (seed_query sys cubes []) ↔ NoSeed sys cubes []
      seed-is = seed-by-query sys is cubes [] known (λ k d lt. absurd (omega (arith, lt)))

    -- ---- frames of clauses with levels
    module _ (clauses : List Kept) (known : All (IsCube sys.sig) (cubes_of clauses)) where
      pub known-each : All (λ (kept : Kept). IsCube sys.sig kept.cube) clauses
      known-each = all_map (IsCube sys.sig) (λ (kept : Kept). kept.cube) clauses known

      pub known-from : (i : ℕ) → All (IsCube sys.sig) (cubes_from clauses i)
      known-from i =
          all_mapped (IsCube sys.sig) (λ (kept : Kept). kept.cube) _
          (All-filter (λ (kept : Kept). nat_le i kept.level) (λ (kept : Kept). IsCube sys.sig kept.cube) clauses known-each)

      pub framed : (i : ℕ) → IsFrame sys.sig (printed_frame clauses i)
      framed zero = tt
      framed (suc i) = known-from (suc i)

      abbrev S : Kept → Type 0
      S kept = NoStep sys (frame_below clauses kept) kept.cube

      abbrev query_below : Kept → Query
      query_below kept = before_query sys (frame_below clauses kept) kept.cube

      pub below-is : (kept : Kept) → IsCube sys.sig kept.cube → S kept ↔ N (query_below kept)
      below-is kept k = step-by-query sys is (frame_below clauses kept) kept.cube (framed (kept.level - 1)) k

      below-from : All S clauses → All N (map query_below clauses)
      below-from h = all_mapped N query_below clauses (each (λ (kept : Kept). IsCube sys.sig kept.cube) S (λ kept. N (query_below kept)) (λ kept k. (below-is kept k).0) clauses known-each h)

      below-to : All N (map query_below clauses) → All S clauses
      below-to h = each (λ (kept : Kept). IsCube sys.sig kept.cube) (λ kept. N (query_below kept)) S (λ kept k. (below-is kept k).1) clauses known-each (all_map N query_below clauses h)

      abbrev cubes : List Cube
      cubes = cubes_of clauses

      abbrev told : Verdict → Type 0
      told v = Holds sys v ↔ IsShown sys v × All N (judge_queries sys v)

      safe-told : (frame : ℕ) → told (verdict.Safe frame clauses)
      safe-told frame = (there, here)
        where
          there : Holds sys (verdict.Safe frame clauses) → IsShown sys (verdict.Safe frame clauses) × All N (judge_queries sys (verdict.Safe frame clauses))
          there h =
              let a = invariant-there sys cubes h in
              (tt, three-to N (map (root_query sys) cubes) (map (before_query sys (Some cubes)) cubes) (seed_query sys cubes []) (starts-from cubes known a.starts) (keeps-from cubes known a.keeps) ((seed-is cubes known).1 a.safe))

          here : IsShown sys (verdict.Safe frame clauses) × All N (judge_queries sys (verdict.Safe frame clauses)) → Holds sys (verdict.Safe frame clauses)
          here h =
              let p = three-from N (map (root_query sys) cubes) (map (before_query sys (Some cubes)) cubes) (seed_query sys cubes []) h.1 in
              invariant-back sys cubes known (record { starts = starts-to cubes known p.0; keeps = keeps-to cubes known p.1; safe = (seed-is cubes known).0 p.2 })

      bounded-told : (last : ℕ) (leaves : List Leave) → told (verdict.Bounded last clauses leaves)
      bounded-told last leaves = (there, here)
        where
          there : Holds sys (verdict.Bounded last clauses leaves) → IsShown sys (verdict.Bounded last clauses leaves) × All N (judge_queries sys (verdict.Bounded last clauses leaves))
          there h =
              (h.left, three-to N (map (root_query sys) cubes) (map query_below clauses) (seed_query sys (cubes_from clauses last) []) (starts-from cubes known h.starts) (below-from h.keeps) ((seed-is (cubes_from clauses last) (known-from last)).1 h.safe))

          here : IsShown sys (verdict.Bounded last clauses leaves) × All N (judge_queries sys (verdict.Bounded last clauses leaves)) → Holds sys (verdict.Bounded last clauses leaves)
          here h =
              let p = three-from N (map (root_query sys) cubes) (map query_below clauses) (seed_query sys (cubes_from clauses last) []) h.1 in
              record { starts = starts-to cubes known p.0; keeps = below-to p.1; safe = (seed-is (cubes_from clauses last) (known-from last)).0 p.2; left = h.0 }

    pub holds-by-queries : (v : Verdict) → HasCubes sys.sig v → Holds sys v ↔ IsShown sys v × All N (judge_queries sys v)
    holds-by-queries (verdict.Safe frame clauses) known = safe-told clauses known frame
    holds-by-queries (verdict.Unsafe w) known = (λ h. (h, λ k d lt. absurd (omega (arith, lt))), λ h. h.0)
    holds-by-queries (verdict.NoUniversal links) known = (λ h. (h.0, (runs-by-queries _).0 h.1), λ h. (h.0, (runs-by-queries _).1 h.1))
    holds-by-queries (verdict.Bounded last clauses leaves) known = bounded-told clauses known last leaves
    holds-by-queries (verdict.Spent steps) known = (λ h. (tt, λ k d lt. absurd (omega (arith, lt))), λ h. tt)
    holds-by-queries (verdict.Over what weight) known = (λ h. (tt, λ k d lt. absurd (omega (arith, lt))), λ h. tt)
    holds-by-queries (verdict.NoRun k) known = (λ h. (tt, (runs-by-queries k).0 h), λ h. (runs-by-queries k).1 h.1)
