use Rattle.fo_core.proofs.RunLemmas.{pair-itself, keeps-pair}
use Rattle.fo_core.proofs.run_laws.pair_of_copies_keeps_meaning.Goals as goal

pub returns-clause-keeps : goal.returns-clause-keeps
returns-clause-keeps c = λ sys w copy is. keeps-pair sys is w copy

pub returns-clause-itself : goal.returns-clause-itself
returns-clause-itself c = pair-itself
