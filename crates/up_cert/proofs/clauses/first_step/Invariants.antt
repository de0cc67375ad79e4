use Rattle.std.proofs.Common.{◌≡◌, ℕ, [], ◌∷◌, Some}
use Rattle.up_claims.specs.Blocked.{NoStep}
use Rattle.up_claims.specs.InferQueries.{before_query}
use Rattle.up_cert.specs.Trying.{AreCleared}
use Rattle.up_cert.specs.VerdictSpots.{clause_at}
use Rattle.up_cert.proofs.clauses.first_step.Given as goal

-- no step leads into the cubes of the clauses before this one
abbrev pub invariant-each : goal.invariant-each
invariant-each g l = record {
  limit : g.F.Finder.limit l.f ≡ g.F.Finder.limit l.fn.f;
  cleared : AreCleared l.sys.sig (g.F.Finder.limit l.fn.f)
      (λ (k : ℕ). NoStep l.sys (Some l.cubes) (clause_at l.clauses k).cube)
      (λ (k : ℕ). before_query l.sys (Some l.cubes) (clause_at l.clauses k).cube ∷ []) l.k;
}
