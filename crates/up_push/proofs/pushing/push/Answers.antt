use Rattle.std.proofs.Common.{subst}
use Rattle.fo_min.specs.Found.{IsExcess}
use Rattle.up_push.proofs.OnePush.{push-excess}
use Rattle.up_push.proofs.pushing.push.Goals as goal

pub returns-in-Over-clause-found : goal.returns-in-Over-clause-found
returns-in-Over-clause-found g c =
    let limit = g.F.Finder.limit c.args.f.now in
    push-excess c.args.sys.now limit c.args.frame.now c.args.cube.now c.in-Over.excess
    (subst (λ q. IsExcess c.args.sys.now.sig q limit c.in-Over.excess) c.in_ok-q.ensures.query (rw (c.in-Over.is) at c.in_ok-w.ensures.found))
