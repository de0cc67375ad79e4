use Rattle.std.proofs.Common.{◌≡◌, ℕ, [], ◌∷◌}
use Rattle.up_claims.specs.Blocked.{NoInitial}
use Rattle.up_claims.specs.InferQueries.{root_query}
use Rattle.up_cert.specs.Trying.{AreCleared}
use Rattle.up_cert.specs.VerdictSpots.{clause_at}
use Rattle.up_cert.proofs.clauses.first_initial.Given as goal

-- no initial state meets the cubes of the clauses before this one
abbrev pub invariant-each : goal.invariant-each
invariant-each g l = record {
  limit : g.F.Finder.limit l.f ≡ g.F.Finder.limit l.fn.f;
  cleared : AreCleared l.sys.sig (g.F.Finder.limit l.fn.f)
      (λ (k : ℕ). NoInitial l.sys (clause_at l.clauses k).cube)
      (λ (k : ℕ). root_query l.sys (clause_at l.clauses k).cube ∷ []) l.k;
}
