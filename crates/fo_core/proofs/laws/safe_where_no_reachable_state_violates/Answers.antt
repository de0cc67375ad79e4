use Rattle.fo_core.proofs.AgreeLemmas.{safe-reach}
use Rattle.fo_core.proofs.laws.safe_where_no_reachable_state_violates.Goals as goal

pub returns : goal.returns
returns c = safe-reach
