use Rattle.fo_ground.proofs.AxiomLemmas.{rule-added}
use Rattle.fo_ground.proofs.axioms.add_rule.Goals as goal

pub returns : goal.returns
returns c = λ base le a b d. rw (c.in_ok-push.ensures.ok, c.in_ok-from_slice.ensures.ok) (rule-added c.args.into.now.vars c.args.into.now.clauses c.requires base le c.args.first c.args.second c.args.then a b d)
