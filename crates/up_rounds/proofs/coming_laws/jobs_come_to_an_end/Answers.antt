use Rattle.up_rounds.proofs.Falling.{jobs_fall}
use Rattle.up_rounds.proofs.coming_laws.jobs_come_to_an_end.Goals as goal

pub returns : goal.returns
returns c = jobs_fall
