use Rattle.up_machine.proofs.Counting.{retires_low}
use Rattle.up_machine.proofs.history_laws.retires_are_no_more_than_clauses.Goals as goal

pub returns : goal.returns
returns c = retires_low
