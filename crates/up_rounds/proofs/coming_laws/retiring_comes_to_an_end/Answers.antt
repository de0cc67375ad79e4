use Rattle.up_rounds.proofs.Falling.{retire_falls}
use Rattle.up_rounds.proofs.coming_laws.retiring_comes_to_an_end.Goals as goal

pub returns : goal.returns
returns c = retire_falls
