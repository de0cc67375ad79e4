use Rattle.fo_min.proofs.OneAnswer.{one-answer}
use Rattle.fo_min.proofs.laws.one_answer_of_least.Goals as goal

pub returns : goal.returns
returns c sig q limit a b is sorted = one-answer sig q limit is sorted a b
