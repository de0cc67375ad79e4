use Rattle.fo_core.specs.Finds.{HasNoWorld}
use Rattle.up_claims.specs.RunQueries.{run_query, HasNoRunOf}
use Rattle.up_cert.proofs.TriedLemmas.{answered-ok, is-run-query, run-by-query}
use Rattle.up_cert.proofs.asking.try_run.Goals as goal

pub returns-clause-answered : goal.returns-clause-answered
returns-clause-answered g c =
    let sys = c.args.sys.now in
    let steps = c.args.steps in
    let is = is-run-query sys steps c.in_ok-query.query c.in_ok-query.ensures.copies c.in_ok-query.ensures.claims in
    answered-ok sys.sig (g.F.Finder.limit c.args.f.now) (HasNoWorld sys.sig (run_query sys steps)) (HasNoRunOf sys steps) (run-by-query sys steps) (run_query sys steps)
    c.ask.result (rw is at c.ask.ensures.answered)
