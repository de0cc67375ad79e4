use Rattle.up_push.proofs.OnePush.{one-answer}
use Rattle.up_push.proofs.laws.one_answer_of_push.Goals as goal

pub returns : goal.returns
returns c sys limit frame cube a b is framed known = one-answer sys limit frame cube is framed known a b
