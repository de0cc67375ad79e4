use Rattle.std.proofs.Common.{option_map}
use Rattle.fo_core.specs.Finds.{HasNoWorld}
use Rattle.up_claims.specs.Blocked.{NoStep}
use Rattle.up_claims.specs.InferQueries.{before_query}
use Rattle.up_claims.proofs.BlockedLemmas.{step-by-query}
use Rattle.up_cert.proofs.TriedLemmas.{tried-ok}
use Rattle.up_cert.proofs.asking.try_step.Goals as goal

pub returns-clause-tried : goal.returns-clause-tried
returns-clause-tried g c =
    let sys = c.args.sys.now in
    let cube = c.args.cube.now in
    let frame = option_map (λ cubes. cubes.now) c.args.frame in
    let same = step-by-query sys c.requires.infer.system frame cube c.requires.frame c.requires.cube in
    tried-ok sys.sig (g.F.Finder.limit c.args.f.now) (HasNoWorld sys.sig (before_query sys frame cube)) (NoStep sys frame cube) (same.1, same.0) (before_query sys frame cube)
    c.ask.result (rw c.in_ok-query.ensures.query at c.ask.ensures.answered)
