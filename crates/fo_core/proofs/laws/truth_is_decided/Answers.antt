use Rattle.fo_core.proofs.Decided.{tell}
use Rattle.fo_core.proofs.laws.truth_is_decided.Goals as goal

pub returns : goal.returns
returns c = tell
