use Rattle.fo_min.proofs.OneAnswer.{one-excess}
use Rattle.fo_min.proofs.laws.one_excess.Goals as goal

pub returns : goal.returns
returns c = one-excess
