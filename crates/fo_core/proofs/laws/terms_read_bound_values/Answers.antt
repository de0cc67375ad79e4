use Rattle.fo_core.proofs.AgreeLemmas.{value-front}
use Rattle.fo_core.proofs.laws.terms_read_bound_values.Goals as goal

pub returns : goal.returns
returns c = value-front
