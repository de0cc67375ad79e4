-- Things that are asked for by number, one after the other; and clauses by their numbers.
use Rattle.std.proofs.Common.{ℕ, ◌+◌, ◌<◌, ◌≤◌, List, Some, length, arith, below_more}
use Rattle.std.specs.List.{All}
use Rattle.fo_core.specs.declared.query.Query.{Query}
use Rattle.fo_core.specs.declared.signature.Sig.{Sig}
use Rattle.fo_core.proofs.ListFacts.{all_map}
use Rattle.up_diagram.specs.Cubes.{IsCube}
use Rattle.up_claims.specs.declared.verdict.Kept.{Kept}
use Rattle.up_claims.specs.Verdicts.{cubes_of}
use Rattle.up_cert.specs.declared.answer.Answer.TheVariants as answer
use Rattle.up_cert.specs.declared.answer.Halt.TheVariants as halt
use Rattle.up_cert.specs.Judging.{IsCleared}
use Rattle.up_cert.specs.Trying.{IsTried, AreCleared, Halts}
use Rattle.up_cert.specs.VerdictSpots.{clause_at, no_clause}

module _ (sig : Sig) (limit : ℕ) (A : ℕ → Type 0) (Q : ℕ → List Query) where
  pub cleared-more : (k : ℕ) → AreCleared sig limit A Q k → IsTried sig limit (A k) (Q k) answer.Passes → AreCleared sig limit A Q (k + 1)
  cleared-more k before here = below_more (λ (j : ℕ). IsCleared sig limit (A j) (Q j)) k before here

  pub all-cleared : (n k : ℕ) → n ≤ k → AreCleared sig limit A Q k → AreCleared sig limit A Q n
  all-cleared n k le h j lt = h j (omega (arith, le, lt))

  pub halts-fails : (n k : ℕ) → k < n → AreCleared sig limit A Q k → IsTried sig limit (A k) (Q k) answer.Fails → Halts sig limit A Q n (Some (halt.Fails k))
  halts-fails n k lt before here = record { reached = record { within = lt; cleared = before }; denied = here }

  pub halts-heavy : (n k weight : ℕ) → k < n → AreCleared sig limit A Q k → IsTried sig limit (A k) (Q k) (answer.Over weight) → Halts sig limit A Q n (Some (halt.Over weight))
  halts-heavy n k weight lt before here = record { number = k; reached = record { within = lt; cleared = before }; heavy = here }

-- the cube of each clause is well-sorted
pub clause-cube : (sig : Sig) (clauses : List Kept) (k : ℕ) → All (IsCube sig) (cubes_of clauses) → k < length clauses → IsCube sig (clause_at clauses k).cube
clause-cube sig clauses k known lt = all_map (IsCube sig) (λ (kept : Kept). kept.cube) clauses known k no_clause lt
