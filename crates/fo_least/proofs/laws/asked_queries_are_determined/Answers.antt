use Rattle.fo_least.proofs.AskedInTurn.{asked-begins}
use Rattle.fo_least.proofs.laws.asked_queries_are_determined.Goals as goal

pub returns : goal.returns
returns c = asked-begins
