use Rattle.up_claims.proofs.UnrollLemmas.{meaning-unroll, query-unroll, rises-unroll}
use Rattle.std.proofs.Common.{◌+◌, refl}
use Rattle.up_claims.proofs.unroll.unroll_query.Goals as goal

pub returns-clause-sorted : goal.returns-clause-sorted
returns-clause-sorted c =
    query-unroll c.args.sys.now c.args.steps (record { copies = c.args.steps + 1; claims = c.in_ok-claims_of_run.field-0 }) c.requires.sys refl c.in_ok-claims_of_run.ensures

pub returns-clause-meaning : goal.returns-clause-meaning
returns-clause-meaning c =
    meaning-unroll c.args.sys.now c.args.steps (record { copies = c.args.steps + 1; claims = c.in_ok-claims_of_run.field-0 }) refl c.in_ok-claims_of_run.ensures

pub returns-clause-rises : goal.returns-clause-rises
returns-clause-rises c =
    rises-unroll c.args.sys.now c.args.steps (record { copies = c.args.steps + 1; claims = c.in_ok-claims_of_run.field-0 }) c.in_ok-claims_of_run.ensures
