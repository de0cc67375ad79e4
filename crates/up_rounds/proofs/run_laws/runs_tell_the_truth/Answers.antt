use Rattle.up_rounds.proofs.SoundRuns.{run_tells}
use Rattle.up_rounds.proofs.run_laws.runs_tell_the_truth.Goals as goal

pub returns : goal.returns
returns c = run_tells
