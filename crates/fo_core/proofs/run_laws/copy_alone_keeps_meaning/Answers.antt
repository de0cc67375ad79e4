use Rattle.fo_core.proofs.RunLemmas.{alone-itself, keeps-alone}
use Rattle.fo_core.proofs.run_laws.copy_alone_keeps_meaning.Goals as goal

pub returns-clause-keeps : goal.returns-clause-keeps
returns-clause-keeps c = λ sys w copy is. keeps-alone sys is w copy

pub returns-clause-itself : goal.returns-clause-itself
returns-clause-itself c = alone-itself
