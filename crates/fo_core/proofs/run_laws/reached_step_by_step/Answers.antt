use Rattle.fo_core.proofs.ReachLemmas.{reached-by-step}
use Rattle.fo_core.proofs.run_laws.reached_step_by_step.Goals as goal

pub returns : goal.returns
returns c = reached-by-step
