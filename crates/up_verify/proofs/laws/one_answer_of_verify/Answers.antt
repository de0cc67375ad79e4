use Rattle.up_verify.proofs.Cases.{one_answer}
use Rattle.up_verify.proofs.laws.one_answer_of_verify.Goals as goal

pub returns : goal.returns
returns c sys limit a b is = one_answer sys limit is a b
