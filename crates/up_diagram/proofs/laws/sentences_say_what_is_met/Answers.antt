use Rattle.up_diagram.proofs.Said.{claim_is, clause_is}
use Rattle.up_diagram.proofs.laws.sentences_say_what_is_met.Goals as goal

pub returns-clause-claim : goal.returns-clause-claim
returns-clause-claim c = claim_is

pub returns-clause-clause : goal.returns-clause-clause
returns-clause-clause c = clause_is
