use Rattle.fo_least.proofs.OneLeast.{one_least}
use Rattle.fo_least.proofs.laws.one_least_world.Goals as goal

pub returns : goal.returns
returns c = one_least
