use Rattle.up_claims.specs.declared.verdict.Verdict.TheVariants as verdict
use Rattle.up_cert.proofs.VerdictsFound.{frame-init, frame-step, frame-seed}
use Rattle.up_cert.proofs.judging.judge_frames.Goals as goal

pub returns-in-Some-clause-found : goal.returns-in-Some-clause-found
returns-in-Some-clause-found g c = λ leaves.
    rw c.halted.ensures
    (frame-init c.args.sys.now (g.F.Finder.limit c.args.f.now) (verdict.Bounded c.args.last c.args.clauses.now leaves) c.args.clauses.now c.in-Some.halt
    (rw c.in-Some.is at c.in_ok-halt.ensures.halts))

pub returns-in-Some-2-clause-found : goal.returns-in-Some-2-clause-found
returns-in-Some-2-clause-found g c = λ leaves.
    rw c.halted-in-Some-2.ensures
    (frame-step c.args.sys.now (g.F.Finder.limit c.args.f.now) (verdict.Bounded c.args.last c.args.clauses.now leaves) c.args.clauses.now c.in-Some-2.halt
    (rw c.in_default.is at c.in_ok-halt.ensures.halts) (rw (c.in_ok-halt.ensures.limit, c.in-Some-2.is) at c.in_ok-halt-2.ensures.halts))

pub returns-clause-found : goal.returns-clause-found
returns-clause-found g c = λ leaves.
    rw c.answered.ensures
    (frame-seed c.args.sys.now (g.F.Finder.limit c.args.f.now) (verdict.Bounded c.args.last c.args.clauses.now leaves) c.args.clauses.now c.in_ok-seed.seed
    (rw c.in_default.is at c.in_ok-halt.ensures.halts) (rw (c.in_ok-halt.ensures.limit, c.in_default-2.is) at c.in_ok-halt-2.ensures.halts)
    (rw (c.in_ok-halt-2.ensures.limit, c.in_ok-halt.ensures.limit) at c.in_ok-seed.ensures.tried))
