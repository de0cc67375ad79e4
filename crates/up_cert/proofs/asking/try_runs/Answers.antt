use Rattle.std.proofs.Common.{◌≡◌, ◌+◌, ◌∙◌, subst, arith}
use Rattle.up_cert.proofs.TriedLemmas.{IsSoFar, so-far-more, runs-fail, runs-heavy, runs-pass}
use Rattle.up_cert.proofs.asking.try_runs.Goals as goal

pub returns-in-Fails-clause-tried : goal.returns-in-Fails-clause-tried
returns-in-Fails-clause-tried g c =
    runs-fail c.args.sys.now (g.F.Finder.limit c.args.f.now) c.args.steps c.each.k (omega (arith, c.each-test.true)) c.each.invariant.so_far
    (rw (c.each.invariant.limit, c.in-Fails.is) at c.in_ok-try_run.ensures.answered)

pub returns-in-Over-clause-tried : goal.returns-in-Over-clause-tried
returns-in-Over-clause-tried g c =
    runs-heavy c.args.sys.now (g.F.Finder.limit c.args.f.now) c.args.steps c.each.k c.in-Over.weight (omega (arith, c.each-test.true)) c.each.invariant.so_far
    (rw (c.each.invariant.limit, c.in-Over.is) at c.in_ok-try_run.ensures.answered)

pub each-preserved : goal.each-preserved
each-preserved g c = record {
  limit = c.in_ok-try_run.ensures.limit ∙ c.each.invariant.limit;
  so_far = so-far-more c.args.sys.now (g.F.Finder.limit c.args.f.now) c.each.k c.each.invariant.so_far
      (rw (c.each.invariant.limit, c.in-Passes.is) at c.in_ok-try_run.ensures.answered);
}

pub returns-clause-tried : goal.returns-clause-tried
returns-clause-tried g c =
    let end : c.each.k ≡ c.args.steps + 1 = omega (arith, c.each-test.false, c.each.auto.k-end) in
    runs-pass c.args.sys.now (g.F.Finder.limit c.args.f.now) c.args.steps
    (subst (IsSoFar c.args.sys.now (g.F.Finder.limit c.args.f.now)) end c.each.invariant.so_far)
