use Rattle.fo_min.proofs.BuildingLemmas.{elements-done}
use Rattle.fo_min.proofs.building.elements.Goals as goal

pub returns-then-i-xs : goal.returns-then-i-xs
returns-then-i-xs c = elements-done c.args.sizes.now c.args.sorts.now c.args.xs.now c.each.terms c.each.i c.if-i-xs.true c.each.invariant.named
