use Rattle.up_cert.proofs.QueryLemmas.{queries-of-spots}
use Rattle.up_cert.proofs.laws.queries_of_the_spots_judge_a_verdict.Goals as goal

pub returns : goal.returns
returns c = queries-of-spots
