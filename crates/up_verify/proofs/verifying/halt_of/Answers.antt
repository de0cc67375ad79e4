use Rattle.up_verify.proofs.Cases.{finds_shown, finds_weight}
use Rattle.up_verify.proofs.verifying.halt_of.Goals as goal

pub returns-in-Model-clause-found : goal.returns-in-Model-clause-found
returns-in-Model-clause-found g c =
    finds_shown c.args.sys.now (g.F.Finder.limit c.args.f.now) c.args.step c.args.property c.in_ok-query.query c.in_ok-query.ensures.copies c.in_ok-query.ensures.claims c.in_ok-query.ensures.meaning c.in-Model.found c.in_ok-world-in-Model.world
    (rw (c.in-Model.is) at c.in_ok-find.ensures.found) c.in_ok-world-in-Model.ensures.meets (rw c.in_ok-find.ensures.limit at c.in_ok-world-in-Model.ensures.shown)

pub returns-clause-found : goal.returns-clause-found
returns-clause-found g c =
    finds_weight c.args.sys.now (g.F.Finder.limit c.args.f.now) c.args.step c.args.property c.in_ok-query.query c.in_ok-query.ensures.copies c.in_ok-query.ensures.claims c.in_ok-query.ensures.meaning c.in-Over.weight
    (rw (c.in-Over.is) at c.in_ok-find.ensures.found)
