use Rattle.up_cert.proofs.PassLemmas.{passes-there, passes-back}
use Rattle.up_cert.proofs.laws.a_verdict_holds_where_all_spots_pass.Goals as goal

pub returns : goal.returns
returns c = λ sys told over. (passes-there sys told over, passes-back sys told)
