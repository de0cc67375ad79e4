use Rattle.up_machine.proofs.OneDue.{due_one}
use Rattle.up_machine.proofs.one_laws.one_task_is_due.Goals as goal

pub returns : goal.returns
returns c = due_one
