use Rattle.up_jobs.proofs.Givens.{given-frames}
use Rattle.up_jobs.proofs.given_laws.works_are_given_frames_of_their_levels.Goals as goal

pub returns : goal.returns
returns c = given-frames
