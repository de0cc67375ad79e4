use Rattle.up_claims.proofs.JudgingLemmas.{least-is-shortest}
use Rattle.up_claims.proofs.verdict_laws.the_least_run_is_shortest.Goals as goal

pub returns : goal.returns
returns c = least-is-shortest
