use Rattle.up_rounds.proofs.SoundRuns.{run_whole}
use Rattle.up_rounds.proofs.run_laws.runs_are_legal_and_closed.Goals as goal

pub returns : goal.returns
returns c = run_whole
