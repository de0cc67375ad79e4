use Rattle.std.proofs.Common.{◌∙◌}
use Rattle.fo_ground.proofs.FactLemmas.{same_var-sym}
use Rattle.fo_ground.proofs.place.same.Goals as goal

pub returns : goal.returns
returns c = c.ordered-2.ensures ∙ same_var-sym c.args.u.now c.args.lay.now c.args.q c.args.p
