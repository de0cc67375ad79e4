-- The weight that is told is that of the first query above the limit, of all that judge the verdict.
use Rattle.std.proofs.Common.{◌↔◌, ℕ, zero, suc, ◌+◌, List, [], ◌∷◌, ◌++◌, Some, length, sym, ap, subst, ◌∙◌, append_assoc}
use Rattle.std.specs.List.{All, flat_map}
use Rattle.std.proofs.lemmas.Grind.{flat_map-append}
use Rattle.std.proofs.lemmas.List.Elements.{All-nil, All-cons, All-append}
use Rattle.fo_core.specs.declared.query.Query.{Query}
use Rattle.fo_core.specs.declared.system.System.{System}
use Rattle.fo_core.specs.Finds.{HasNoWorld, IsLight}
use Rattle.fo_core.specs.Sorted.{IsSystem}
use Rattle.fo_core.proofs.ListFacts.{all_left, all_flat}
use Rattle.up_diagram.specs.Cubes.{IsCube}
use Rattle.up_claims.specs.declared.verdict.Kept.{Kept}
use Rattle.up_claims.specs.declared.verdict.Leave.{Leave}
use Rattle.up_claims.specs.declared.verdict.Link.{Link}
use Rattle.up_claims.specs.declared.verdict.Verdict.{Verdict}
use Rattle.up_claims.specs.declared.verdict.Verdict.TheVariants as verdict
use Rattle.up_claims.specs.Chains.{steps_of_chain}
use Rattle.up_claims.specs.Judging.{judge_queries}
use Rattle.up_claims.specs.Verdicts.{cubes_of, cubes_from}
use Rattle.up_claims.proofs.BlockedLemmas.{initial-by-query, step-by-query, seed-by-query}
use Rattle.up_claims.proofs.JudgingLemmas.{runs-by-queries, known-from, below-is}
use Rattle.up_cert.specs.declared.judged.Judged.TheVariants as judged
use Rattle.up_cert.specs.declared.spot.Spot.{Spot}
use Rattle.up_cert.specs.declared.spot.What.TheVariants as what
use Rattle.up_cert.specs.Asked.{IsVerdict}
use Rattle.up_cert.specs.Judging.{ComesTo, FindsHeavy, Clears, IsSpotReached, IsOverFirst, IsJudged}
use Rattle.up_cert.specs.VerdictSpots.{Passes, queries_at, spots_of, spot, leaves_to, links_below, link_spots, origin_what, frame_spots, clause_at}
use Rattle.up_cert.proofs.HaltLemmas.{clause-cube}
use Rattle.up_cert.proofs.Numbered.{each-to, frame-all}
use Rattle.up_cert.proofs.QueryLemmas.{queries-of-spots}

module _ (sys : System) (is : IsSystem sys) where
  abbrev N : Query → Type 0
  N = HasNoWorld sys.sig

  -- where what the spot asks for is so, none of its queries has a world
  abbrev Quiet : Verdict → Spot → Type 0
  Quiet told s = Passes sys told s → All N (queries_at sys told s)

  one-quiet : (A : Type 0) (q : Query) → A ↔ N q → A → All N (q ∷ [])
  one-quiet A q same a = All-cons N q [] (same.0 a) (All-nil N)

  module _ (frame : ℕ) (clauses : List Kept) (known : All (IsCube sys.sig) (cubes_of clauses)) where
    safe-quiet : All (Quiet (verdict.Safe frame clauses)) (frame_spots clauses)
    safe-quiet =
        frame-all (Quiet (verdict.Safe frame clauses)) clauses
        (λ k lt. one-quiet _ _ (initial-by-query sys is (clause_at clauses k).cube (clause-cube sys.sig clauses k known lt)))
        (λ k lt. one-quiet _ _ (step-by-query sys is (Some (cubes_of clauses)) (clause_at clauses k).cube known (clause-cube sys.sig clauses k known lt)))
        (λ safe. All-cons N _ [] ((seed-by-query sys is (cubes_of clauses) [] known (All-nil (IsCube sys.sig))).1 safe) (All-nil N))

  module _ (last : ℕ) (clauses : List Kept) (leaves : List Leave) (known : All (IsCube sys.sig) (cubes_of clauses)) where
    abbrev QB : Spot → Type 0
    QB = Quiet (verdict.Bounded last clauses leaves)

    bounded-quiet : All QB (spots_of (verdict.Bounded last clauses leaves))
    bounded-quiet =
        All-append QB (frame_spots clauses) (leaves_to last)
        (frame-all QB clauses
        (λ k lt. one-quiet _ _ (initial-by-query sys is (clause_at clauses k).cube (clause-cube sys.sig clauses k known lt)))
        (λ k lt. one-quiet _ _ (below-is sys is clauses known (clause_at clauses k) (clause-cube sys.sig clauses k known lt)))
        (λ safe. All-cons N _ [] ((seed-by-query sys is (cubes_from clauses last) [] (known-from sys is clauses known last) (All-nil (IsCube sys.sig))).1 safe) (All-nil N)))
        (each-to QB (λ k. spot what.Leave (k + 1) ∷ []) last (λ k lt. All-cons QB (spot what.Leave (k + 1)) [] (λ left. All-nil N) (All-nil QB)))

  module _ (links : List Link) where
    abbrev QN : Spot → Type 0
    QN = Quiet (verdict.NoUniversal links)

    origin-quiet : (k : ℕ) → QN (spot (origin_what k) k)
    origin-quiet zero starts = All-nil N
    origin-quiet (suc k) comes = All-nil N

    link-quiet : (k : ℕ) → All QN (link_spots k)
    link-quiet k =
        All-cons QN (spot what.State k) (spot (origin_what k) k ∷ spot what.Map k ∷ []) (λ state. All-nil N)
        (All-cons QN (spot (origin_what k) k) (spot what.Map k ∷ []) (origin-quiet k) (All-cons QN (spot what.Map k) [] (λ embeds. All-nil N) (All-nil QN)))

    chain-quiet : All QN (spots_of (verdict.NoUniversal links))
    chain-quiet =
        All-append QN (links_below (length links)) (spot what.Safety 0 ∷ spot what.Run 0 ∷ []) (each-to QN link_spots (length links) (λ k lt. link-quiet k))
        (All-cons QN (spot what.Safety 0) (spot what.Run 0 ∷ []) (λ bad. All-nil N)
        (All-cons QN (spot what.Run 0) [] (λ none. (runs-by-queries sys (steps_of_chain links)).0 none) (All-nil QN)))

  quiet-all : (told : Verdict) → IsVerdict sys.sig told → All (Quiet told) (spots_of told)
  quiet-all (verdict.Safe frame clauses) v = safe-quiet frame clauses v.cubes
  quiet-all (verdict.Unsafe w) v = λ k d lt pass. All-nil N
  quiet-all (verdict.NoUniversal links) v = chain-quiet links
  quiet-all (verdict.Bounded last clauses leaves) v = bounded-quiet last clauses leaves v.cubes
  quiet-all (verdict.Spent spent) v = All-nil (Quiet (verdict.Spent spent))
  quiet-all (verdict.Over kind weight) v = All-nil (Quiet (verdict.Over kind weight))
  quiet-all (verdict.NoRun k) v = All-cons (Quiet (verdict.NoRun k)) (spot what.Run 0) [] (λ none. (runs-by-queries sys k).0 none) (All-nil (Quiet (verdict.NoRun k)))

  module _ (limit : ℕ) (told : Verdict) (v : IsVerdict sys.sig told) where
    abbrev Q : Spot → List Query
    Q = queries_at sys told

    abbrev Light : Query → Type 0
    Light = IsLight sys.sig limit

    over-first : (weight : ℕ) → IsOverFirst sys limit told (spots_of told) weight → FindsHeavy sys.sig limit (judge_queries sys told) weight
    over-first weight h = record {
      query = q;
      reached = record {
        before = flat_map Q r.before ++ asked.before;
        after = asked.after ++ flat_map Q r.after;
        parts = sym (queries-of-spots sys told) ∙ ap (flat_map Q) r.parts ∙ flat_map-append Q r.before (h.spot ∷ r.after) ∙
            ap (λ (qs : List Query). flat_map Q r.before ++ (qs ++ flat_map Q r.after)) asked.parts ∙
            ap (λ (qs : List Query). flat_map Q r.before ++ qs) (append_assoc asked.before (q ∷ asked.after) (flat_map Q r.after)) ∙
            sym (append_assoc (flat_map Q r.before) asked.before (q ∷ (asked.after ++ flat_map Q r.after)));
        none = All-append N (flat_map Q r.before) asked.before (all_flat N Q r.before (λ k d lt. quiet k d lt (r.cleared k d lt).so)) asked.none;
        light = All-append Light (flat_map Q r.before) asked.before (all_flat Light Q r.before (λ k d lt. (r.cleared k d lt).light)) asked.light;
      };
      weighs = h.heavy.weighs;
      above = h.heavy.above;
    }
      where
        r : IsSpotReached sys limit told (spots_of told) h.spot
        r = h.reached

        q : Query
        q = h.heavy.query

        asked : ComesTo sys.sig limit (Q h.spot) q
        asked = h.heavy.reached

        quiet : All (Quiet told) r.before
        quiet = all_left (Quiet told) r.before (h.spot ∷ r.after) (subst (All (Quiet told)) r.parts (quiet-all told v))

  pub judged-over : (limit : ℕ) (told : Verdict) (weight : ℕ) → IsVerdict sys.sig told → IsJudged sys limit told (judged.Over weight) → FindsHeavy sys.sig limit (judge_queries sys told) weight
  judged-over limit (verdict.Safe frame clauses) weight v h = over-first limit (verdict.Safe frame clauses) v weight h
  judged-over limit (verdict.Unsafe w) weight v h = over-first limit (verdict.Unsafe w) v weight h
  judged-over limit (verdict.NoUniversal links) weight v h = over-first limit (verdict.NoUniversal links) v weight h
  judged-over limit (verdict.Bounded last clauses leaves) weight v h = over-first limit (verdict.Bounded last clauses leaves) v weight h
  judged-over limit (verdict.Spent spent) weight v h = absurd cc
  judged-over limit (verdict.Over kind told) weight v h = absurd cc
  judged-over limit (verdict.NoRun k) weight v h = over-first limit (verdict.NoRun k) v weight h

module _ (sys : System) (limit : ℕ) where
  all-light : (told : Verdict) → All (Clears sys limit told) (spots_of told) → All (IsLight sys.sig limit) (judge_queries sys told)
  all-light told all =
      subst (All (IsLight sys.sig limit)) (queries-of-spots sys told)
      (all_flat (IsLight sys.sig limit) (queries_at sys told) (spots_of told) (λ k d lt. (all k d lt).light))

  pub judged-light : (told : Verdict) → IsJudged sys limit told judged.Holds → All (IsLight sys.sig limit) (judge_queries sys told)
  judged-light (verdict.Safe frame clauses) h = all-light (verdict.Safe frame clauses) h
  judged-light (verdict.Unsafe w) h = all-light (verdict.Unsafe w) h
  judged-light (verdict.NoUniversal links) h = all-light (verdict.NoUniversal links) h
  judged-light (verdict.Bounded last clauses leaves) h = all-light (verdict.Bounded last clauses leaves) h
  judged-light (verdict.Spent spent) h = absurd cc
  judged-light (verdict.Over kind weight) h = absurd cc
  judged-light (verdict.NoRun k) h = all-light (verdict.NoRun k) h
