use Rattle.fo_core.proofs.FewerLiterals.{fewer_literals}
use Rattle.fo_core.proofs.weight_laws.fewer_literals_are_no_heavier.Goals as goal

pub returns : goal.returns
returns c = fewer_literals
