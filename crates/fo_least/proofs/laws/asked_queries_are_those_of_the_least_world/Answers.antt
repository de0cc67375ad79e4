use Rattle.fo_least.proofs.Determined.{asked_leads}
use Rattle.fo_least.proofs.laws.asked_queries_are_those_of_the_least_world.Goals as goal

pub returns : goal.returns
returns c = asked_leads
