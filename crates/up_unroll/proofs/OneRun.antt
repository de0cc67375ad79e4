-- A search for a violating run has one answer.
use Rattle.std.proofs.Common.{◌≡◌, ℕ, ◌⊎◌, inl, inr, ◌+◌, ◌<◌, ◌≤◌, ◌++◌, refl, sym, ap, subst, ◌∙◌, arith}
use Rattle.std.specs.List.{All, range_with_len}
use Rattle.std.proofs.lemmas.Bool.{cases_order}
use Rattle.fo_core.specs.declared.query.Query.{Query}
use Rattle.fo_core.specs.declared.system.System.{System}
use Rattle.fo_core.specs.declared.world.World.{World}
use Rattle.fo_core.specs.Finds.{IsLight, HasNoWorld}
use Rattle.fo_core.specs.Sorted.{IsSystem}
use Rattle.fo_core.specs.Asked.{least_queries}
use Rattle.fo_core.specs.Least.{IsLeast}
use Rattle.fo_least.proofs.OneLeast.{one_least}
use Rattle.fo_core.proofs.ListFacts.{all_map, range_all}
use Rattle.fo_min.specs.declared.found.Excess.{Excess}
use Rattle.fo_min.specs.Found.{IsExcess}
use Rattle.fo_min.proofs.OneAnswer.{one-excess, excess-none, excess-least}
use Rattle.up_claims.specs.declared.kind.Kind.{Kind}
use Rattle.fo_core.proofs.ListFacts.{all_left, all_right}
use Rattle.up_claims.proofs.UnrollLemmas.{meaning-unroll, query-unroll}
use Rattle.up_unroll.specs.declared.unrolling.Unrolled.{Unrolled}
use Rattle.up_unroll.specs.declared.unrolling.Unrolled.TheVariants.{Run, NoRun, Over}
use Rattle.up_claims.specs.RunQueries.{run_query, run_queries, HasNoRunOf, IsLeastRun}
use Rattle.up_unroll.specs.Unrolling.{IsUnrollExcess, IsUnrolled}

module _ (sys : System) (limit steps : ℕ) where
  abbrev Light : Query → Type 0
  Light = IsLight sys.sig limit

  -- where the queries of fewer than k steps are light, that of j steps is
  light-at : (k j : ℕ) → j < k → All Light (run_queries sys k) → Light (run_query sys j)
  light-at k j lt all = range_all (λ n. Light (run_query sys n)) k (all_map Light (run_query sys) (range_with_len 0 k) all) j lt

  no-world : (k : ℕ) → HasNoRunOf sys k → HasNoWorld sys.sig (run_query sys k)
  no-world k none w meets = none w ((meaning-unroll sys k (run_query sys k) refl refl w).0 meets)

  -- a query of runs of j steps isn't above the limit, if there is no such run and the query of these is light
  no-excess : (k j : ℕ) (x : Excess) → j < k → HasNoRunOf sys j → All Light (run_queries sys k) → ¬ IsExcess sys.sig (run_query sys j) limit x
  no-excess k j x lt none light e = excess-none sys.sig (run_query sys j) limit x e (no-world j none) (light-at k j lt light)

  -- the least run of k steps is the least world of its query
  least-of-query : (k : ℕ) (w : World) → IsLeastRun sys steps k w → IsLeast sys.sig (run_query sys k) w
  least-of-query k w r = record {
    meets = (meaning-unroll sys k (run_query sys k) refl refl w).1 r.run;
    first = λ v meets. r.first v ((meaning-unroll sys k (run_query sys k) refl refl v).0 meets);
  }

  -- there is one least run
  one-run : (k j : ℕ) (v w : World) → IsLeastRun sys steps k v → IsLeastRun sys steps j w → v ≡ w
  one-run k j v w r s = by_order (cases_order k j)
    where
      by_order : (k ≡ j) ⊎ ((k < j) ⊎ (j < k)) → v ≡ w
      by_order (inl same) = one_least sys.sig (run_query sys j) v w (subst (λ n. IsLeast sys.sig (run_query sys n) v) same (least-of-query k v r)) (least-of-query j w s)
      by_order (inr (inl lt)) = absurd (s.shortest k lt v r.run)
      by_order (inr (inr lt)) = absurd (r.shortest j lt w s.run)

  -- no query is above the limit where there is none among those of the least run
  pub run-no-excess : IsSystem sys → (k : ℕ) (w : World) (x : Excess) → IsLeastRun sys steps k w → All Light (run_queries sys k ++ least_queries sys.sig (run_query sys k) w) → ¬ IsUnrollExcess sys limit steps x
  run-no-excess is k w x r light e = by_order (cases_order e.length k)
    where
      shorter_light : All Light (run_queries sys k)
      shorter_light = all_left Light (run_queries sys k) (least_queries sys.sig (run_query sys k) w) light

      own_light : All Light (least_queries sys.sig (run_query sys k) w)
      own_light = all_right Light (run_queries sys k) (least_queries sys.sig (run_query sys k) w) light

      by_order : (e.length ≡ k) ⊎ ((e.length < k) ⊎ (k < e.length)) → ⊥
      by_order (inl same) =
          excess-least sys.sig (run_query sys k) limit is.signature (query-unroll sys k (run_query sys k) is refl refl) x
          (subst (λ n. IsExcess sys.sig (run_query sys n) limit x) same e.excess) w (least-of-query k w r) own_light
      by_order (inr (inl lt)) = no-excess k e.length x lt (r.shortest e.length lt) shorter_light e.excess
      by_order (inr (inr lt)) = e.shorter k lt w r.run

  -- nor where there is no run, and none among the queries that show it
  pub none-no-excess : (x : Excess) → ((j : ℕ) → j ≤ steps → HasNoRunOf sys j) → All Light (run_queries sys (steps + 1)) → ¬ IsUnrollExcess sys limit steps x
  none-no-excess x none light e =
      let within = e.within in
      no-excess (steps + 1) e.length x (omega (arith, within)) (none e.length e.within) light e.excess

  -- there is one first query above the limit
  one-unroll-excess : (x y : Excess) → IsUnrollExcess sys limit steps x → IsUnrollExcess sys limit steps y → x ≡ y
  one-unroll-excess x y a b = by_order (cases_order a.length b.length)
    where
      by_order : (a.length ≡ b.length) ⊎ ((a.length < b.length) ⊎ (b.length < a.length)) → x ≡ y
      by_order (inl same) = one-excess sys.sig (run_query sys b.length) limit x y (subst (λ n. IsExcess sys.sig (run_query sys n) limit x) same a.excess) b.excess
      by_order (inr (inl lt)) = absurd (no-excess b.length a.length x lt (b.shorter a.length lt) b.light a.excess)
      by_order (inr (inr lt)) = absurd (no-excess a.length b.length y lt (a.shorter b.length lt) a.light b.excess)

  pub one-answer : IsSystem sys → (a b : Unrolled) → IsUnrolled sys limit steps a → IsUnrolled sys limit steps b → a ≡ b
  one-answer is (Run v) (Run w) h g = ap Run (one-run h.0 g.0 v w h.1 g.1)
  one-answer is (Run v) NoRun h g = absurd (g.0 h.0 h.1.within v h.1.run)
  one-answer is (Run v) (Over kind y) h g = absurd (run-no-excess is h.0 v y h.1 h.2 g.1)
  one-answer is NoRun (Run w) h g = absurd (h.0 g.0 g.1.within w g.1.run)
  one-answer is NoRun NoRun h g = refl
  one-answer is NoRun (Over kind y) h g = absurd (none-no-excess y h.0 h.1 g.1)
  one-answer is (Over kind x) (Run w) h g = absurd (run-no-excess is g.0 w x g.1 g.2 h.1)
  one-answer is (Over kind x) NoRun h g = absurd (none-no-excess x g.0 g.1 h.1)
  one-answer is (Over kind x) (Over other y) h g =
      ap (λ (k : Kind). Over k x) (h.0 ∙ sym g.0) ∙ ap (Over other) (one-unroll-excess x y h.1 g.1)
