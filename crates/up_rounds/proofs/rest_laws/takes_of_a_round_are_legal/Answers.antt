use Rattle.up_rounds.proofs.Resting.{take_legal}
use Rattle.up_rounds.proofs.rest_laws.takes_of_a_round_are_legal.Goals as goal

pub returns : goal.returns
returns c = take_legal
