use Rattle.up_machine.proofs.NewRefuters.{refuters_new}
use Rattle.up_machine.proofs.history_laws.refuters_came_after_the_take.Goals as goal

pub returns : goal.returns
returns c = refuters_new
