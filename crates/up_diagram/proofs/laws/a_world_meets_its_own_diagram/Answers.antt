use Rattle.up_diagram.proofs.DiagramMet.{selves, embeds_in_itself, own_diagram_met}
use Rattle.up_diagram.proofs.laws.a_world_meets_its_own_diagram.Goals as goal

pub returns-clause-embeds : goal.returns-clause-embeds
returns-clause-embeds c sig w k fits copy = (selves sig w k fits copy, embeds_in_itself sig w k fits copy)

pub returns-clause-met : goal.returns-clause-met
returns-clause-met c = own_diagram_met
