use Rattle.std.proofs.Common.{refl}
use Rattle.fo_min.proofs.SearchLemmas.{answer-over, first-excess}
use Rattle.fo_min.proofs.search.least.Goals as goal

pub returns-in-Over-clause-found : goal.returns-in-Over-clause-found
returns-in-Over-clause-found g c =
    first-excess c.args.sys.now.sig c.args.q.now c.in_ok-copy.field-0 (g.F.Finder.limit c.args.f.now) c.in-Over.excess c.in_ok-copy.ensures
    (answer-over c.args.sys.now.sig (g.F.Finder.limit c.args.f.now) (g.F.Finder.limit c.args.f.now) refl (c.in_ok-copy.field-0) c.in_ok-world.field-0 c.in_ok-world.ensures.answer c.in-Over.excess c.in-Over.is)
