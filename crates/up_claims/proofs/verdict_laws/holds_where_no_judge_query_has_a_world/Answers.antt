use Rattle.up_claims.proofs.JudgingLemmas.{holds-by-queries}
use Rattle.up_claims.proofs.verdict_laws.holds_where_no_judge_query_has_a_world.Goals as goal

pub returns : goal.returns
returns c = λ sys told is known. holds-by-queries sys is told known
