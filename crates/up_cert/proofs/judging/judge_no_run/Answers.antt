use Rattle.up_cert.proofs.VerdictsFound.{no-run-found}
use Rattle.up_cert.proofs.judging.judge_no_run.Goals as goal

pub returns-clause-found : goal.returns-clause-found
returns-clause-found g c =
    rw c.answered.ensures (no-run-found c.args.sys.now (g.F.Finder.limit c.args.f.now) c.args.steps c.in_ok-none.none c.in_ok-none.ensures.tried)
