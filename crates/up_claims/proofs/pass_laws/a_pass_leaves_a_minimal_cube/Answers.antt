use Rattle.up_claims.proofs.PassLemmas.{minimal-pass}
use Rattle.up_claims.proofs.pass_laws.a_pass_leaves_a_minimal_cube.Goals as goal

pub returns : goal.returns
returns c sys frame cube rest places blocked pass = minimal-pass sys frame cube rest places blocked pass
