use Rattle.prop_core.specs.Formula.{value_of}
use Rattle.fo_ground.proofs.GroundworkLemmas.{served, served-layout, held-form}
use Rattle.fo_ground.proofs.groundwork.Groundwork.world.Goals as goal

pub read_world-requires-clause-ready : goal.read_world-requires-clause-ready
read_world-requires-clause-ready c = served c.args.self.now c.requires.ground c.args.sig.now c.args.form.now c.requires.serves c.requires.sig c.requires.form c.requires.light

pub read_world-requires-clause-layout : goal.read_world-requires-clause-layout
read_world-requires-clause-layout c = served-layout c.args.self.now c.requires.ground c.args.sig.now c.args.form.now c.requires.serves

pub read_world-requires-clause-few : goal.read_world-requires-clause-few
read_world-requires-clause-few c = c.requires.ground.few

pub read_world-requires-clause-met : goal.read_world-requires-clause-met
read_world-requires-clause-met c =
    held-form c.args.self.now c.requires.ground c.args.sig.now c.args.form.now c.requires.serves c.requires.sig c.requires.form c.requires.light (value_of c.args.values.now) c.requires.met
