use Rattle.up_machine.proofs.Forest.{history_tree}
use Rattle.up_machine.proofs.sound_laws.unfinished_obligations_are_trees.Goals as goal

pub returns : goal.returns
returns c = history_tree
