use Rattle.fo_core.proofs.TupleLemmas.{tuple-place, tuple-below, place-tuple}
use Rattle.fo_core.proofs.laws.tuples_are_numbered.Goals as goal

pub returns-clause-number : goal.returns-clause-number
returns-clause-number c = place-tuple

pub returns-clause-below : goal.returns-clause-below
returns-clause-below c = tuple-below

pub returns-clause-tuple : goal.returns-clause-tuple
returns-clause-tuple c = tuple-place
