use Rattle.up_claims.specs.Blocked.{IsBlocked}
use Rattle.up_claims.proofs.PassLemmas.{one-pass}
use Rattle.up_claims.proofs.pass_laws.a_pass_has_one_result.Goals as goal

pub returns : goal.returns
returns c sys frame cube rest other p q = one-pass (IsBlocked sys frame) cube rest other p q
