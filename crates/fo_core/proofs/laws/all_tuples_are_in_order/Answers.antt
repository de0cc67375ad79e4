use Rattle.fo_core.proofs.TupleLemmas.{tuples_number, tuples-each}
use Rattle.fo_core.proofs.laws.all_tuples_are_in_order.Goals as goal

pub returns-clause-count : goal.returns-clause-count
returns-clause-count c = tuples_number

pub returns-clause-each : goal.returns-clause-each
returns-clause-each c = tuples-each
