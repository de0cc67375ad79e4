use Rattle.up_rounds.proofs.SoundRuns.{run_frames}
use Rattle.up_rounds.proofs.run_laws.frames_of_runs_are_sound.Goals as goal

pub returns : goal.returns
returns c = run_frames
