use Rattle.up_diagram.proofs.Sentences.{claim-sorted, clause-sorted, clause-universal}
use Rattle.up_diagram.proofs.laws.sentences_are_well_sorted.Goals as goal

pub returns-clause-claim : goal.returns-clause-claim
returns-clause-claim c = claim-sorted

pub returns-clause-clause : goal.returns-clause-clause
returns-clause-clause c = clause-sorted

pub returns-clause-universal : goal.returns-clause-universal
returns-clause-universal c = clause-universal
