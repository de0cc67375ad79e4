use Rattle.fo_ground.proofs.AxiomLemmas.{unit-added}
use Rattle.fo_ground.proofs.axioms.add_fact.Goals as goal

pub returns : goal.returns
returns c = λ base le a. rw (c.in_ok-push.ensures.ok, c.in_ok-from_slice.ensures.ok) (unit-added c.args.into.now.vars c.args.into.now.clauses c.requires base le c.args.then a)
