use Rattle.up_machine.proofs.Idle.{idle_busy}
use Rattle.up_machine.proofs.history_laws.idle_is_due_only_where_a_job_is_out.Goals as goal

pub returns : goal.returns
returns c = idle_busy
