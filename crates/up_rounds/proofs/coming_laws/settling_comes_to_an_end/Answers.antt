use Rattle.up_rounds.proofs.Falling.{settle_falls}
use Rattle.up_rounds.proofs.coming_laws.settling_comes_to_an_end.Goals as goal

pub returns : goal.returns
returns c = settle_falls
