use Rattle.fo_min.proofs.BuildingLemmas.{cover-more}
use Rattle.fo_min.proofs.building.cover.Goals as goal

pub each-preserved : goal.each-preserved
each-preserved c = cover-more c.args.sizes.now c.args.sort c.each.x c.in_ok-bound.bound c.in_ok-element.field-0 c.each.parts _ c.in_ok-bound.ensures c.in_ok-element.ensures c.each.invariant c.in_ok-push.ensures.ok
