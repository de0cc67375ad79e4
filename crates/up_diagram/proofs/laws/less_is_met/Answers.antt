use Rattle.up_diagram.proofs.Leaving.{without_covers, without_met}
use Rattle.up_diagram.proofs.laws.less_is_met.Goals as goal

pub returns-clause-covers : goal.returns-clause-covers
returns-clause-covers c = without_covers

pub returns-clause-met : goal.returns-clause-met
returns-clause-met c = without_met
