use Rattle.std.proofs.Common.{sym, subst}
use Rattle.fo_ground.specs.Layout.{HasInstance}
use Rattle.fo_ground.proofs.GroundworkLemmas.{laid, closed}
use Rattle.fo_ground.proofs.groundwork.Groundwork.instances.Goals as goal

pub emit-requires-clause-ready : goal.emit-requires-clause-ready
emit-requires-clause-ready c = laid c.args.self.now c.requires.ground

pub emit-requires-clause-instance : goal.emit-requires-clause-instance
emit-requires-clause-instance c =
    subst (λ env. HasInstance c.args.self.now.universe c.args.self.now.layout env c.args.claim.now) (sym c.new-env.ensures.items) (closed c.args.self.now c.requires.ground c.args.claim.now c.requires.sorted)
