use Rattle.up_cert.proofs.Judgements.{one-judgement}
use Rattle.up_cert.proofs.laws.one_judgement.Goals as goal

pub returns : goal.returns
returns c = one-judgement
