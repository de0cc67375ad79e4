use Rattle.pyv_meaning.proofs.Classes.{sorts_decided}
use Rattle.pyv_meaning.proofs.laws.sorts_are_decided.Goals as goal

pub returns : goal.returns
returns c = λ uses. sorts_decided uses
