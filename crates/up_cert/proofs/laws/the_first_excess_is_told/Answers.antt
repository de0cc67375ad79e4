use Rattle.up_cert.proofs.ExcessLemmas.{judged-over, judged-light}
use Rattle.up_cert.proofs.laws.the_first_excess_is_told.Goals as goal

pub returns-clause-heavy : goal.returns-clause-heavy
returns-clause-heavy c = λ sys limit weight told is v h. judged-over sys is limit told weight v h

pub returns-clause-light : goal.returns-clause-light
returns-clause-light c = judged-light
