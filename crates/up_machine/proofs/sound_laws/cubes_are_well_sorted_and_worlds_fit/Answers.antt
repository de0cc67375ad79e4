use Rattle.up_machine.proofs.Fit.{history_fit}
use Rattle.up_machine.proofs.sound_laws.cubes_are_well_sorted_and_worlds_fit.Goals as goal

pub returns : goal.returns
returns c sys limits history good legal = history_fit sys limits history good legal
