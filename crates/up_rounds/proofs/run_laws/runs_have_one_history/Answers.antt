use Rattle.up_rounds.proofs.SoundRuns.{runs_same}
use Rattle.up_rounds.proofs.run_laws.runs_have_one_history.Goals as goal

pub returns : goal.returns
returns c = runs_same
