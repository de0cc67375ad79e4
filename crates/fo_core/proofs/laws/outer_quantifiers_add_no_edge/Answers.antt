use Rattle.fo_core.proofs.Binders.{all_over-edge, some_over-edge}
use Rattle.fo_core.proofs.laws.outer_quantifiers_add_no_edge.Goals as goal

pub returns-clause-all : goal.returns-clause-all
returns-clause-all c = all_over-edge

pub returns-clause-some : goal.returns-clause-some
returns-clause-some c = some_over-edge
