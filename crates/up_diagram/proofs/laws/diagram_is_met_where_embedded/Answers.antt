use Rattle.up_diagram.proofs.DiagramMet.{met_where_embedded}
use Rattle.up_diagram.proofs.laws.diagram_is_met_where_embedded.Goals as goal

pub returns : goal.returns
returns c = met_where_embedded
