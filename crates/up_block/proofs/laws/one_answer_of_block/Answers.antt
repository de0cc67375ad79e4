use Rattle.up_block.proofs.OneBlock.{one-answer}
use Rattle.up_block.proofs.laws.one_answer_of_block.Goals as goal

pub returns : goal.returns
returns c sys limit frame cube a b is framed known = one-answer sys limit frame cube is framed known a b
