use Rattle.fo_least.proofs.SomeLeast.{some-least}
use Rattle.fo_least.proofs.laws.some_world_is_least.Goals as goal

pub returns : goal.returns
returns c = some-least
