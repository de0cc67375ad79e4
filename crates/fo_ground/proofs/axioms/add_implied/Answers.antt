use Rattle.fo_ground.proofs.AxiomLemmas.{implied-added}
use Rattle.fo_ground.proofs.axioms.add_implied.Goals as goal

pub returns : goal.returns
returns c = λ base le a b. rw (c.in_ok-push.ensures.ok, c.in_ok-from_slice.ensures.ok) (implied-added c.args.into.now.vars c.args.into.now.clauses c.requires base le c.args.first c.args.then a b)
