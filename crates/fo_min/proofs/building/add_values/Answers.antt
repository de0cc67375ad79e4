use Rattle.fo_min.proofs.BuildingLemmas.{have_values-done}
use Rattle.fo_min.proofs.building.add_values.Goals as goal

pub returns : goal.returns
returns c = have_values-done c.args.sizes.now c.args.sig.now c.args.cells.now c.args.values.now c.each.i c.each.parts _ c.each-test.false c.each.invariant
