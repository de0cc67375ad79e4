use Rattle.up_unroll.proofs.OneRun.{one-answer}
use Rattle.up_unroll.proofs.laws.one_answer_of_unroll.Goals as goal

pub returns : goal.returns
returns c sys limit steps a b is = one-answer sys limit steps is a b
