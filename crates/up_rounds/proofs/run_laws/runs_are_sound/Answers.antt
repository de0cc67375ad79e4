use Rattle.up_rounds.proofs.SoundRuns.{run_sound}
use Rattle.up_rounds.proofs.run_laws.runs_are_sound.Goals as goal

pub returns : goal.returns
returns c = run_sound
