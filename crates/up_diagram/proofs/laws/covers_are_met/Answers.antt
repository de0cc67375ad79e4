use Rattle.up_diagram.proofs.Covered.{covers_meets}
use Rattle.up_diagram.proofs.laws.covers_are_met.Goals as goal

pub returns : goal.returns
returns c = covers_meets
