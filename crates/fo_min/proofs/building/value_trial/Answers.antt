use Rattle.fo_min.proofs.BuildingLemmas.{cells-symbols}
use Rattle.fo_min.proofs.building.value_trial.Goals as goal

pub add_values-requires-clause-symbols : goal.add_values-requires-clause-symbols
add_values-requires-clause-symbols c = cells-symbols c.args.sig.now c.args.sizes.now c.args.q.now.copies c.args.cells.now c.requires.cells
