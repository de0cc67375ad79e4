use Rattle.fo_core.specs.Finds.{HasNoWorld}
use Rattle.up_claims.specs.Blocked.{NoInitial}
use Rattle.up_claims.specs.InferQueries.{root_query}
use Rattle.up_claims.proofs.BlockedLemmas.{initial-by-query}
use Rattle.up_cert.proofs.TriedLemmas.{tried-ok}
use Rattle.up_cert.proofs.asking.try_initial.Goals as goal

pub returns-clause-tried : goal.returns-clause-tried
returns-clause-tried g c =
    let sys = c.args.sys.now in
    let cube = c.args.cube.now in
    let same = initial-by-query sys c.requires.infer.system cube c.requires.cube in
    tried-ok sys.sig (g.F.Finder.limit c.args.f.now) (HasNoWorld sys.sig (root_query sys cube)) (NoInitial sys cube) (same.1, same.0) (root_query sys cube)
    c.ask.result (rw c.in_ok-query.ensures.query at c.ask.ensures.answered)
