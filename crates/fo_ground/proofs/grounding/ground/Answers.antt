use Rattle.fo_ground.proofs.GroundLemmas.{from-world, to-world}
use Rattle.fo_ground.proofs.grounding.ground.Goals as goal

pub returns-clause-world_from_values : goal.returns-clause-world_from_values
returns-clause-world_from_values c = to-world c.args.sig.now c.args.form.now c.args.u.now c.requires c.in_ok-grounded.grounded c.in_ok-grounded.ensures

pub returns-clause-values_from_world : goal.returns-clause-values_from_world
returns-clause-values_from_world c = from-world c.args.sig.now c.args.form.now c.args.u.now c.requires c.in_ok-grounded.grounded c.in_ok-grounded.ensures
