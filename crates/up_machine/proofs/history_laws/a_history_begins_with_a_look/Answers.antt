use Rattle.up_machine.proofs.Sanity.{first_take}
use Rattle.up_machine.proofs.history_laws.a_history_begins_with_a_look.Goals as goal

pub returns : goal.returns
returns c sys limits some = first_take sys limits some
