use Rattle.up_rounds.proofs.FirstEvent.{first_look}
use Rattle.up_rounds.proofs.laws.rounds_begin_with_a_look.Goals as goal

pub returns : goal.returns
returns c = first_look
