use Rattle.up_verify.proofs.Cases.{all_pass}
use Rattle.up_verify.proofs.verifying.verify.Goals as goal

pub returns-in-None-clause-found : goal.returns-in-None-clause-found
returns-in-None-clause-found g c =
    all_pass c.args.sys.now (g.F.Finder.limit c.args.f.now) c.requires.sys (rw (c.in-None.is) at c.in_ok-first_halt.ensures.found)
