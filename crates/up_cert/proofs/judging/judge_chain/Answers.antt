use Rattle.fo_core.proofs.Answered.{false_from}
use Rattle.up_cert.proofs.VerdictsFound.{chain-link, chain-safety, chain-run}
use Rattle.up_cert.proofs.judging.judge_chain.Goals as goal

pub returns-in-Some-clause-found : goal.returns-in-Some-clause-found
returns-in-Some-clause-found g c =
    chain-link c.args.sys.now (g.F.Finder.limit c.args.f.now) c.args.links.now c.in-Some.spot (rw c.in-Some.is at c.in_ok-spot.ensures.looks)

pub returns-then-not-ends_badly-clause-found : goal.returns-then-not-ends_badly-clause-found
returns-then-not-ends_badly-clause-found g c =
    chain-safety c.args.sys.now (g.F.Finder.limit c.args.f.now) c.args.links.now (rw c.in_default.is at c.in_ok-spot.ensures.looks)
    (false_from c.ends_badly.result c.if-not-ends_badly.true c.ends_badly.ensures.shown)

pub returns-clause-found : goal.returns-clause-found
returns-clause-found g c =
    let bad = c.ends_badly.ensures.shown.0 c.if-not-ends_badly.false in
    rw c.answered.ensures
    (chain-run c.args.sys.now (g.F.Finder.limit c.args.f.now) c.args.links.now c.in_ok-none.none (rw c.in_default.is at c.in_ok-spot.ensures.looks) bad c.in_ok-none.ensures.tried)
