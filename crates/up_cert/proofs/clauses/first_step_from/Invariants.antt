use Rattle.std.proofs.Common.{◌≡◌, ℕ, [], ◌∷◌}
use Rattle.up_claims.specs.Blocked.{NoStep}
use Rattle.up_claims.specs.InferQueries.{before_query}
use Rattle.up_claims.specs.Verdicts.{frame_below}
use Rattle.up_cert.specs.Clauses.{IsFrameAt}
use Rattle.up_cert.specs.Trying.{AreCleared}
use Rattle.up_cert.specs.VerdictSpots.{clause_at}
use Rattle.up_cert.proofs.clauses.first_step_from.Given as goal

-- no step leads into the cubes of the clauses before this one from the frames below them
abbrev pub invariant-each : goal.invariant-each
invariant-each g l = record {
  limit : g.F.Finder.limit l.f ≡ g.F.Finder.limit l.fn.f;
  frame : IsFrameAt l.clauses l.frame;
  cleared : AreCleared l.sys.sig (g.F.Finder.limit l.fn.f)
      (λ (k : ℕ). NoStep l.sys (frame_below l.clauses (clause_at l.clauses k)) (clause_at l.clauses k).cube)
      (λ (k : ℕ). before_query l.sys (frame_below l.clauses (clause_at l.clauses k)) (clause_at l.clauses k).cube ∷ []) l.k;
}
