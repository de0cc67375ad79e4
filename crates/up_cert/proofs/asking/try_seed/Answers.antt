use Rattle.std.proofs.Common.{[]}
use Rattle.std.proofs.lemmas.List.Elements.{All-nil}
use Rattle.fo_core.specs.Finds.{HasNoWorld}
use Rattle.up_diagram.specs.Cubes.{IsCube}
use Rattle.up_claims.specs.Blocked.{NoSeed}
use Rattle.up_claims.specs.InferQueries.{seed_query}
use Rattle.up_claims.proofs.BlockedLemmas.{seed-by-query}
use Rattle.up_cert.proofs.TriedLemmas.{tried-ok}
use Rattle.up_cert.proofs.asking.try_seed.Goals as goal

pub returns-clause-tried : goal.returns-clause-tried
returns-clause-tried g c =
    let sys = c.args.sys.now in
    let frame = c.args.frame.now in
    tried-ok sys.sig (g.F.Finder.limit c.args.f.now) (HasNoWorld sys.sig (seed_query sys frame [])) (NoSeed sys frame [])
    (seed-by-query sys c.requires.infer.system frame [] c.requires.frame (All-nil (IsCube sys.sig))) (seed_query sys frame [])
    c.ask.result (rw c.in_ok-query.ensures.query at c.ask.ensures.answered)
