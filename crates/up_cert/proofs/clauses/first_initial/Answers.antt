use Rattle.std.proofs.Common.{◌≤◌, ◌<◌, ℕ, ◌∙◌, [], ◌∷◌, length, arith}
use Rattle.up_claims.specs.Blocked.{NoInitial}
use Rattle.up_claims.specs.InferQueries.{root_query}
use Rattle.up_cert.specs.VerdictSpots.{clause_at}
use Rattle.up_cert.proofs.HaltLemmas.{cleared-more, all-cleared, halts-fails, halts-heavy, clause-cube}
use Rattle.up_cert.proofs.clauses.first_initial.Goals as goal

pub try_initial-requires-clause-cube : goal.try_initial-requires-clause-cube
try_initial-requires-clause-cube g c =
    let lt : c.each.k < length c.args.clauses.now = omega (arith, c.each-test.true) in
    rw c.clause_of-kept.ensures (clause-cube c.args.sys.now.sig c.args.clauses.now c.each.k c.requires.clauses.sorted lt)

pub returns-in-Fails-clause-halts : goal.returns-in-Fails-clause-halts
returns-in-Fails-clause-halts g c =
    let lt : c.each.k < length c.args.clauses.now = omega (arith, c.each-test.true) in
    halts-fails c.args.sys.now.sig (g.F.Finder.limit c.args.f.now) (λ (k : ℕ). NoInitial c.args.sys.now (clause_at c.args.clauses.now k).cube) (λ (k : ℕ). root_query c.args.sys.now (clause_at c.args.clauses.now k).cube ∷ [])
    (length c.args.clauses.now) c.each.k lt c.each.invariant.cleared
    (rw (c.each.invariant.limit, c.in-Fails.is, c.clause_of-kept.ensures) at c.in_ok-try_initial.ensures.tried)

pub returns-in-Over-clause-halts : goal.returns-in-Over-clause-halts
returns-in-Over-clause-halts g c =
    let lt : c.each.k < length c.args.clauses.now = omega (arith, c.each-test.true) in
    halts-heavy c.args.sys.now.sig (g.F.Finder.limit c.args.f.now) (λ (k : ℕ). NoInitial c.args.sys.now (clause_at c.args.clauses.now k).cube) (λ (k : ℕ). root_query c.args.sys.now (clause_at c.args.clauses.now k).cube ∷ [])
    (length c.args.clauses.now) c.each.k c.in-Over.weight lt c.each.invariant.cleared
    (rw (c.each.invariant.limit, c.in-Over.is, c.clause_of-kept.ensures) at c.in_ok-try_initial.ensures.tried)

pub each-preserved : goal.each-preserved
each-preserved g c = record {
  limit = c.in_ok-try_initial.ensures.limit ∙ c.each.invariant.limit;
  cleared = cleared-more c.args.sys.now.sig (g.F.Finder.limit c.args.f.now) (λ (k : ℕ). NoInitial c.args.sys.now (clause_at c.args.clauses.now k).cube) (λ (k : ℕ). root_query c.args.sys.now (clause_at c.args.clauses.now k).cube ∷ [])
      c.each.k c.each.invariant.cleared (rw (c.each.invariant.limit, c.in-Passes.is, c.clause_of-kept.ensures) at c.in_ok-try_initial.ensures.tried);
}

pub returns-clause-halts : goal.returns-clause-halts
returns-clause-halts g c =
    let le : length c.args.clauses.now ≤ c.each.k = omega (arith, c.each-test.false) in
    all-cleared c.args.sys.now.sig (g.F.Finder.limit c.args.f.now) (λ (k : ℕ). NoInitial c.args.sys.now (clause_at c.args.clauses.now k).cube) (λ (k : ℕ). root_query c.args.sys.now (clause_at c.args.clauses.now k).cube ∷ [])
    (length c.args.clauses.now) c.each.k le c.each.invariant.cleared
