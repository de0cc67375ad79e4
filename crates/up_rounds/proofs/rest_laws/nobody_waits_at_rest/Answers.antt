use Rattle.up_rounds.proofs.Resting.{nobody_waits}
use Rattle.up_rounds.proofs.rest_laws.nobody_waits_at_rest.Goals as goal

pub returns : goal.returns
returns c = nobody_waits
