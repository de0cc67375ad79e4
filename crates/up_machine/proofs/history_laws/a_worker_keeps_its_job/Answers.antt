use Rattle.up_machine.proofs.Holding.{stays-held}
use Rattle.up_machine.proofs.history_laws.a_worker_keeps_its_job.Goals as goal

pub returns : goal.returns
returns c = stays-held
