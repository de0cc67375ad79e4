-- The queries of all spots, in their order, are those that judge a verdict.
use Rattle.std.proofs.Common.{◌≡◌, ℕ, zero, suc, ◌+◌, ◌<◌, ◌≤◌, List, [], ◌∷◌, ◌++◌, Some, length, map, take, refl, sym, ap, ap₂, ◌∙◌, arith}
use Rattle.std.specs.List.{flat_map}
use Rattle.std.proofs.Math.Seq.{take-length}
use Rattle.std.proofs.lemmas.Grind.{flat_map-append}
use Rattle.std.proofs.lemmas.List.{append-nil, map_more}
use Rattle.fo_core.specs.declared.query.Query.{Query}
use Rattle.fo_core.specs.declared.system.System.{System}
use Rattle.fo_core.specs.declared.world.World.{World}
use Rattle.up_diagram.specs.declared.cube.Cube.{Cube}
use Rattle.up_claims.specs.declared.verdict.Kept.{Kept}
use Rattle.up_claims.specs.declared.verdict.Leave.{Leave}
use Rattle.up_claims.specs.declared.verdict.Link.{Link}
use Rattle.up_claims.specs.declared.verdict.Verdict.{Verdict}
use Rattle.up_claims.specs.declared.verdict.Verdict.TheVariants as verdict
use Rattle.up_claims.specs.InferQueries.{seed_query, root_query, before_query}
use Rattle.up_claims.specs.Judging.{initial_queries, judge_queries}
use Rattle.up_claims.specs.RunQueries.{run_queries}
use Rattle.up_claims.specs.Verdicts.{cubes_of, cubes_from, frame_below}
use Rattle.up_cert.specs.declared.spot.Spot.{Spot}
use Rattle.up_cert.specs.declared.spot.What.{What}
use Rattle.up_cert.specs.declared.spot.What.TheVariants as what
use Rattle.up_cert.specs.VerdictSpots.{queries_at, spots_of, spot, each_below, spots_below, leaves_to, links_below, link_spots, clause_spots, frame_spots, clause_at, no_clause}

maps-cubes : (g : Cube → Query) (clauses : List Kept) → map (λ (kept : Kept). g kept.cube) clauses ≡ map g (cubes_of clauses)
maps-cubes g [] = refl
maps-cubes g (kept ∷ clauses) = ap (λ (l : List Query). g kept.cube ∷ l) (maps-cubes g clauses)

module _ (Q : Spot → List Query) where
  -- spots that have no queries
  none-below : (spots : ℕ → List Spot) → ((k : ℕ) → flat_map Q (spots k) ≡ []) → (n : ℕ) → flat_map Q (each_below spots n) ≡ []
  none-below spots none zero = refl
  none-below spots none (suc n) =
      flat_map-append Q (each_below spots n) (spots n) ∙ ap₂ (λ (a b : List Query). a ++ b) (none-below spots none n) (none n)

  -- spots of clauses that have one query each
  one-below : (w : What) (g : Kept → Query) (clauses : List Kept) → ((k : ℕ) → Q (spot w k) ≡ g (clause_at clauses k) ∷ []) → (n : ℕ) → n ≤ length clauses → flat_map Q (spots_below w n) ≡ map g (take n clauses)
  one-below w g clauses one zero le = refl
  one-below w g clauses one (suc n) le =
      let lt : n < length clauses = omega (arith, le) in
      let e : n + 1 ≡ suc n = omega arith in
      flat_map-append Q (spots_below w n) (spot w n ∷ []) ∙
      ap₂ (λ (a b : List Query). a ++ b) (one-below w g clauses one n (omega (arith, le))) (append-nil (Q (spot w n)) ∙ one n) ∙
      sym (map_more g clauses n no_clause lt) ∙
      ap (λ (m : ℕ). map g (take m clauses)) e

  of-clauses : (w : What) (g : Kept → Query) (clauses : List Kept) → ((k : ℕ) → Q (spot w k) ≡ g (clause_at clauses k) ∷ []) → flat_map Q (spots_below w (length clauses)) ≡ map g clauses
  of-clauses w g clauses one = one-below w g clauses one (length clauses) (omega arith) ∙ ap (map g) (take-length clauses)

  -- three parts
  of-frame : (clauses : List Kept) (starts keeps : List Query) (safe : Query) → flat_map Q (spots_below what.Init (length clauses)) ≡ starts → flat_map Q (spots_below what.Step (length clauses)) ≡ keeps → Q (spot what.Safety 0) ≡ safe ∷ [] → flat_map Q (frame_spots clauses) ≡ starts ++ keeps ++ safe ∷ []
  of-frame clauses starts keeps safe a b c =
      flat_map-append Q (clause_spots clauses) (spot what.Safety 0 ∷ []) ∙
      ap₂ (λ (x y : List Query). x ++ y)
      (flat_map-append Q (spots_below what.Init (length clauses)) (spots_below what.Step (length clauses)) ∙ ap₂ (λ (x y : List Query). x ++ y) a b)
      (append-nil (Q (spot what.Safety 0)) ∙ c)

module _ (sys : System) where
  safe-queries : (frame : ℕ) (clauses : List Kept) → flat_map (queries_at sys (verdict.Safe frame clauses)) (frame_spots clauses) ≡ judge_queries sys (verdict.Safe frame clauses)
  safe-queries frame clauses =
      let Q = queries_at sys (verdict.Safe frame clauses) in
      of-frame Q clauses (initial_queries sys clauses) (map (before_query sys (Some (cubes_of clauses))) (cubes_of clauses)) (seed_query sys (cubes_of clauses) [])
      (of-clauses Q what.Init (λ (kept : Kept). root_query sys kept.cube) clauses (λ k. refl) ∙ maps-cubes (root_query sys) clauses)
      (of-clauses Q what.Step (λ (kept : Kept). before_query sys (Some (cubes_of clauses)) kept.cube) clauses (λ k. refl) ∙ maps-cubes (before_query sys (Some (cubes_of clauses))) clauses)
      refl

  run-none : (w : World) (spots : List Spot) → flat_map (queries_at sys (verdict.Unsafe w)) spots ≡ []
  run-none w [] = refl
  run-none w (s ∷ spots) = run-none w spots

  link-none : (links : List Link) (k : ℕ) → flat_map (queries_at sys (verdict.NoUniversal links)) (link_spots k) ≡ []
  link-none links zero = refl
  link-none links (suc k) = refl

  chain-queries : (links : List Link) → flat_map (queries_at sys (verdict.NoUniversal links)) (spots_of (verdict.NoUniversal links)) ≡ judge_queries sys (verdict.NoUniversal links)
  chain-queries links =
      let Q = queries_at sys (verdict.NoUniversal links) in
      flat_map-append Q (links_below (length links)) (spot what.Safety 0 ∷ spot what.Run 0 ∷ []) ∙
      ap₂ (λ (x y : List Query). x ++ y) (none-below Q link_spots (link-none links) (length links)) (append-nil (judge_queries sys (verdict.NoUniversal links)))

  bounded-queries : (last : ℕ) (clauses : List Kept) (leaves : List Leave) → flat_map (queries_at sys (verdict.Bounded last clauses leaves)) (spots_of (verdict.Bounded last clauses leaves)) ≡ judge_queries sys (verdict.Bounded last clauses leaves)
  bounded-queries last clauses leaves =
      let Q = queries_at sys (verdict.Bounded last clauses leaves) in
      flat_map-append Q (frame_spots clauses) (leaves_to last) ∙
      ap₂ (λ (x y : List Query). x ++ y)
      (of-frame Q clauses (initial_queries sys clauses) (map (λ (kept : Kept). before_query sys (frame_below clauses kept) kept.cube) clauses) (seed_query sys (cubes_from clauses last) [])
      (of-clauses Q what.Init (λ (kept : Kept). root_query sys kept.cube) clauses (λ k. refl) ∙ maps-cubes (root_query sys) clauses)
      (of-clauses Q what.Step (λ (kept : Kept). before_query sys (frame_below clauses kept) kept.cube) clauses (λ k. refl))
      refl)
      (none-below Q (λ k. spot what.Leave (k + 1) ∷ []) (λ k. refl) last) ∙
      append-nil (judge_queries sys (verdict.Bounded last clauses leaves))

  pub queries-of-spots : (told : Verdict) → flat_map (queries_at sys told) (spots_of told) ≡ judge_queries sys told
  queries-of-spots (verdict.Safe frame clauses) = safe-queries frame clauses
  queries-of-spots (verdict.Unsafe w) = run-none w (spots_of (verdict.Unsafe w))
  queries-of-spots (verdict.NoUniversal links) = chain-queries links
  queries-of-spots (verdict.Bounded last clauses leaves) = bounded-queries last clauses leaves
  queries-of-spots (verdict.Spent steps) = refl
  queries-of-spots (verdict.Over kind weight) = refl
  queries-of-spots (verdict.NoRun k) = append-nil (run_queries sys (k + 1))
