use Rattle.up_claims.proofs.InductiveLemmas.{inductive-there, inductive-back}
use Rattle.up_claims.proofs.laws.inductive_where_nothing_breaks.Goals as goal

pub returns : goal.returns
returns c sys is = (inductive-there sys is, inductive-back sys is)
