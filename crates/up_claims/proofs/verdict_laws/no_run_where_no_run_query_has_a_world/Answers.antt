use Rattle.up_claims.proofs.JudgingLemmas.{runs-by-queries}
use Rattle.up_claims.proofs.verdict_laws.no_run_where_no_run_query_has_a_world.Goals as goal

pub returns : goal.returns
returns c = runs-by-queries
