use Rattle.fo_core.proofs.FewerLiterals.{fewer_formulas}
use Rattle.fo_core.proofs.weight_laws.fewer_formulas_are_no_heavier.Goals as goal

pub returns : goal.returns
returns c = fewer_formulas
