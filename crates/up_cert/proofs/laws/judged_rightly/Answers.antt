use Rattle.up_cert.proofs.Judgements.{judged-holds, judged-wrong}
use Rattle.up_cert.proofs.laws.judged_rightly.Goals as goal

pub returns-clause-holds : goal.returns-clause-holds
returns-clause-holds c = judged-holds

pub returns-clause-wrong : goal.returns-clause-wrong
returns-clause-wrong c = judged-wrong
