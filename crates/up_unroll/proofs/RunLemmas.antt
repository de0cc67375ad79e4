-- What the answers to the queries of violating runs say.
use Rattle.std.specs.Prelude.{◌≡◌, ◌↔◌, ℕ, ◌+◌, ◌<◌, ◌≤◌, List}
use Rattle.std.specs.List.{All}
use Rattle.std.proofs.Common.{subst, sym, ap, ◌∙◌, below_more, zero-add}
use Rattle.std.proofs.lemmas.List.Elements.{All-append, All-push}
use Rattle.std.proofs.lemmas.List.FromFn.{map-range_with_len_more}
use Rattle.fo_core.specs.declared.query.Query.{Query}
use Rattle.fo_core.specs.declared.formula.Formula.{Formula}
use Rattle.fo_core.specs.declared.system.System.{System}
use Rattle.fo_core.specs.declared.world.World.{World}
use Rattle.fo_core.specs.Queries.{MeetsQuery}
use Rattle.fo_core.specs.Asked.{least_queries}
use Rattle.fo_min.specs.declared.found.Least.TheVariants.{Model, Nothing}
use Rattle.fo_min.specs.Found.{IsFoundLeast}
use Rattle.up_claims.specs.Breaking.{IsViolatingRunOf}
use Rattle.up_claims.specs.Claims.{unroll_claims}
use Rattle.up_unroll.specs.declared.unrolling.Unrolled.TheVariants.{Run}
use Rattle.up_claims.specs.RunQueries.{run_query, run_queries, HasNoRunOf, IsLeastRun}
use Rattle.up_unroll.specs.Unrolling.{IsUnrolled}
use Rattle.fo_core.specs.Finds.{IsLight}

same-query : (copies : ℕ) (claims : List Formula) (q : Query) → q.copies ≡ copies → q.claims ≡ claims → q ≡ record { copies = copies; claims = claims }
same-query copies claims q c d =
    let of_copies : ℕ → Query = λ n. record { copies = n; claims = q.claims } in
    let of_claims : List Formula → Query = λ fs. record { copies = copies; claims = fs } in
    ap of_copies c ∙ ap of_claims d

-- the query that was built is the query of runs of k steps
is-run-query : (sys : System) (k : ℕ) (q : Query) → q.copies ≡ k + 1 → q.claims ≡ unroll_claims sys k → q ≡ run_query sys k
is-run-query sys k q c d = same-query (k + 1) (unroll_claims sys k) q c d

module _ (sys : System) (limit k : ℕ) (q : Query) (means : (w : World) → MeetsQuery sys.sig q w ↔ IsViolatingRunOf sys k w) where
  pub light-more : q.copies ≡ k + 1 → q.claims ≡ unroll_claims sys k →
      All (IsLight sys.sig limit) (run_queries sys k) → IsFoundLeast sys.sig q limit Nothing → All (IsLight sys.sig limit) (run_queries sys (k + 1))
  light-more c d light here =
      subst (All (IsLight sys.sig limit)) (sym (map-range_with_len_more (run_query sys) 0 k k (zero-add k)))
      (All-push (IsLight sys.sig limit) (run_queries sys k) (run_query sys k) light
      (subst (IsLight sys.sig limit) (is-run-query sys k q c d) here.1))

  pub shorter-more : ((j : ℕ) → j < k → HasNoRunOf sys j) → IsFoundLeast sys.sig q limit Nothing → (j : ℕ) → j < k + 1 → HasNoRunOf sys j
  shorter-more below none = below_more (HasNoRunOf sys) k below (λ w run. none.0 w ((means w).1 run))

  pub least-run : (steps : ℕ) (w : World) → k ≤ steps → q.copies ≡ k + 1 → q.claims ≡ unroll_claims sys k →
      ((j : ℕ) → j < k → HasNoRunOf sys j) → All (IsLight sys.sig limit) (run_queries sys k) →
      IsFoundLeast sys.sig q limit (Model w) → IsUnrolled sys limit steps (Run w)
  least-run steps w within c d shorter light found =
      let run : IsLeastRun sys steps k w = record {
        within = within;
        run = (means w).0 found.0.meets;
        shortest = shorter;
        first = λ v is_run. found.0.first v ((means v).1 is_run);
      } in
      let asked : All (IsLight sys.sig limit) (least_queries sys.sig (run_query sys k) w) =
      subst (λ p. All (IsLight sys.sig limit) (least_queries sys.sig p w)) (is-run-query sys k q c d) found.1 in
      (k, run, All-append (IsLight sys.sig limit) (run_queries sys k) (least_queries sys.sig (run_query sys k) w) light asked)
