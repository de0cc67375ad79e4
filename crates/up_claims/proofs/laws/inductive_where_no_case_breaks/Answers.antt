use Rattle.up_claims.proofs.CaseLemmas.{inductive_by_cases}
use Rattle.up_claims.proofs.laws.inductive_where_no_case_breaks.Goals as goal

pub returns : goal.returns
returns c sys is = inductive_by_cases sys is
