-- What is found of the spots of a verdict, by what is found of its parts.
use Rattle.std.proofs.Common.{◌≡◌, ℕ, ◌+◌, List, [], ◌∷◌, Option, None, Some, length, refl}
use Rattle.std.proofs.lemmas.List.Elements.{All-append}
use Rattle.fo_core.specs.declared.query.Query.{Query}
use Rattle.fo_core.specs.declared.system.System.{System}
use Rattle.up_claims.specs.declared.verdict.Kept.{Kept}
use Rattle.up_claims.specs.declared.verdict.Leave.{Leave}
use Rattle.up_claims.specs.declared.verdict.Link.{Link}
use Rattle.up_claims.specs.declared.verdict.Verdict.{Verdict}
use Rattle.up_claims.specs.declared.verdict.Verdict.TheVariants as verdict
use Rattle.up_claims.specs.Chains.{steps_of_chain}
use Rattle.up_claims.specs.RunQueries.{run_queries}
use Rattle.up_claims.specs.Verdicts.{HasNoRunWithin}
use Rattle.up_cert.specs.declared.answer.Answer.{Answer}
use Rattle.up_cert.specs.declared.answer.Halt.{Halt}
use Rattle.up_cert.specs.declared.judged.Judged.{Judged}
use Rattle.up_cert.specs.declared.judged.Judged.TheVariants as judged
use Rattle.up_cert.specs.declared.spot.Spot.{Spot}
use Rattle.up_cert.specs.declared.spot.What.{What}
use Rattle.up_cert.specs.declared.spot.What.TheVariants as what
use Rattle.up_cert.specs.Judging.{Clears, IsFound}
use Rattle.up_cert.specs.Trying.{IsTried, AreCleared, Halts, Looks, halt_told, answer_told, look_told}
use Rattle.up_cert.specs.VerdictSpots.{Passes, queries_at, spots_of, spot, spots_below, leaves_to, links_below, clause_spots, frame_spots, EndsBadly}
use Rattle.up_cert.proofs.FoundLemmas.{wrong-left, over-left, halt-left, found-right, found-one, all-below, found-below}
use Rattle.up_cert.proofs.LookLemmas.{look-passes, look-fails}

-- ---- clauses

module _ (sys : System) (limit : ℕ) (told : Verdict) (clauses : List Kept) where
  abbrev C : Spot → Type 0
  C = Clears sys limit told

  -- what is asked for of the clause of each number, and the queries that decide it
  abbrev A : What → ℕ → Type 0
  A w k = Passes sys told (spot w k)

  abbrev Q : What → ℕ → List Query
  Q w k = queries_at sys told (spot w k)

  abbrev n : ℕ
  n = length clauses

  pub frame-init : (h : Halt) → Halts sys.sig limit (A what.Init) (Q what.Init) n (Some h) → IsFound sys limit told (frame_spots clauses) (halt_told what.Init h)
  frame-init h halts =
      halt-left sys limit told (clause_spots clauses) (spot what.Safety 0 ∷ []) what.Init h
      (halt-left sys limit told (spots_below what.Init n) (spots_below what.Step n) what.Init h (found-below sys limit told what.Init n h halts))

  pub frame-step : (h : Halt) → AreCleared sys.sig limit (A what.Init) (Q what.Init) n → Halts sys.sig limit (A what.Step) (Q what.Step) n (Some h) → IsFound sys limit told (frame_spots clauses) (halt_told what.Step h)
  frame-step h starts halts =
      halt-left sys limit told (clause_spots clauses) (spot what.Safety 0 ∷ []) what.Step h
      (found-right sys limit told (spots_below what.Init n) (spots_below what.Step n) (halt_told what.Step h)
      (all-below sys limit told what.Init n starts) (found-below sys limit told what.Step n h halts))

  pub frame-seed : (a : Answer) → AreCleared sys.sig limit (A what.Init) (Q what.Init) n → AreCleared sys.sig limit (A what.Step) (Q what.Step) n → IsTried sys.sig limit (A what.Safety 0) (Q what.Safety 0) a → IsFound sys limit told (frame_spots clauses) (answer_told what.Safety a)
  frame-seed a starts keeps tried =
      found-right sys limit told (clause_spots clauses) (spot what.Safety 0 ∷ []) (answer_told what.Safety a)
      (All-append C (spots_below what.Init n) (spots_below what.Step n) (all-below sys limit told what.Init n starts) (all-below sys limit told what.Step n keeps))
      (found-one sys limit told (spot what.Safety 0) a tried refl)

-- ---- links

module _ (sys : System) (limit : ℕ) (links : List Link) where
  abbrev N : Verdict
  N = verdict.NoUniversal links

  abbrev ends : List Spot
  ends = spot what.Safety 0 ∷ spot what.Run 0 ∷ []

  abbrev chained : List Spot
  chained = links_below (length links)

  pub chain-link : (s : Spot) → Looks sys N chained (Some s) → IsFound sys limit N (spots_of N) (judged.Wrong s)
  chain-link s h = wrong-left sys limit N chained ends s (h limit)

  pub chain-safety : Looks sys N chained None → ¬ EndsBadly sys links → IsFound sys limit N (spots_of N) (judged.Wrong (spot what.Safety 0))
  chain-safety h not =
      found-right sys limit N chained ends (judged.Wrong (spot what.Safety 0)) (h limit)
      (wrong-left sys limit N (spot what.Safety 0 ∷ []) (spot what.Run 0 ∷ []) (spot what.Safety 0) (look-fails sys N (spot what.Safety 0) refl not limit))

  pub chain-run : (a : Answer) → Looks sys N chained None → EndsBadly sys links → IsTried sys.sig limit (HasNoRunWithin sys (steps_of_chain links)) (run_queries sys (steps_of_chain links + 1)) a → IsFound sys limit N (spots_of N) (answer_told what.Run a)
  chain-run a h bad tried =
      found-right sys limit N chained ends (answer_told what.Run a) (h limit)
      (found-right sys limit N (spot what.Safety 0 ∷ []) (spot what.Run 0 ∷ []) (answer_told what.Run a) (look-passes sys N (spot what.Safety 0) refl bad limit)
      (found-one sys limit N (spot what.Run 0) a tried refl))

pub no-run-found : (sys : System) (limit k : ℕ) (a : Answer) → IsTried sys.sig limit (HasNoRunWithin sys k) (run_queries sys (k + 1)) a → IsFound sys limit (verdict.NoRun k) (spots_of (verdict.NoRun k)) (answer_told what.Run a)
no-run-found sys limit k a tried = found-one sys limit (verdict.NoRun k) (spot what.Run 0) a tried refl

-- ---- frames

module _ (sys : System) (limit last : ℕ) (clauses : List Kept) (leaves : List Leave) where
  abbrev B : Verdict
  B = verdict.Bounded last clauses leaves

  pub frames-left : (first : Option Spot) → IsFound sys limit B (frame_spots clauses) judged.Holds → Looks sys B (leaves_to last) first → IsFound sys limit B (spots_of B) (look_told first)
  frames-left first frames h = found-right sys limit B (frame_spots clauses) (leaves_to last) (look_told first) frames (h limit)

  pub frames-wrong : (j : Judged) → ¬ (j ≡ judged.Holds) → IsFound sys limit B (frame_spots clauses) j → IsFound sys limit B (spots_of B) j
  frames-wrong judged.Holds not h = absurd (not refl)
  frames-wrong (judged.Wrong s) not h = wrong-left sys limit B (frame_spots clauses) (leaves_to last) s h
  frames-wrong (judged.Over weight) not h = over-left sys limit B (frame_spots clauses) (leaves_to last) weight h
  frames-wrong judged.Nothing not h = h
