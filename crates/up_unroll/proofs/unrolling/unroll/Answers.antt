use Rattle.std.proofs.Common.{arith, ◌<◌, ◌+◌, ℕ, subst, ◌≡◌, ◌∙◌}
use Rattle.std.specs.List.{All}
use Rattle.fo_core.specs.Finds.{IsLight}
use Rattle.up_claims.specs.RunQueries.{run_queries}
use Rattle.up_unroll.proofs.RunLemmas.{light-more, shorter-more, least-run}
use Rattle.up_unroll.proofs.unrolling.unroll.Goals as goal

pub returns-in-Model-clause-found : goal.returns-in-Model-clause-found
returns-in-Model-clause-found g c =
    least-run c.args.sys.now (g.F.Finder.limit c.args.f.now) c.each.k c.in_ok-q.q c.in_ok-q.ensures.meaning c.args.steps c.in-Model.run'
    (omega (arith, c.each-test.true)) c.in_ok-q.ensures.copies c.in_ok-q.ensures.claims c.each.invariant.shorter c.each.invariant.light
    (rw (c.each.invariant.limit, c.in-Model.is) at c.in_ok-run.ensures.found)

pub each-preserved : goal.each-preserved
each-preserved g c =
    let found = rw (c.each.invariant.limit, c.in-Nothing.is) at c.in_ok-run.ensures.found in
    record {
      limit = c.in_ok-run.ensures.limit ∙ c.each.invariant.limit;
      shorter = shorter-more c.args.sys.now (g.F.Finder.limit c.args.f.now) c.each.k c.in_ok-q.q c.in_ok-q.ensures.meaning c.each.invariant.shorter found;
      light = light-more c.args.sys.now (g.F.Finder.limit c.args.f.now) c.each.k c.in_ok-q.q c.in_ok-q.ensures.meaning
          c.in_ok-q.ensures.copies c.in_ok-q.ensures.claims c.each.invariant.light found;
    }

pub returns-clause-found : goal.returns-clause-found
returns-clause-found g c =
    let end : c.each.k ≡ c.args.steps + 1 = omega (arith, c.each-test.false, c.each.auto.k-end) in (
      (λ j within. let below : j < c.each.k = omega (arith, c.each-test.false) in c.each.invariant.shorter j below),
      subst (λ (k : ℕ). All (IsLight c.args.sys.now.sig (g.F.Finder.limit c.args.f.now)) (run_queries c.args.sys.now k)) end c.each.invariant.light,
    )
