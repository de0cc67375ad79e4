use Rattle.up_machine.proofs.Fails.{history_fails}
use Rattle.up_machine.proofs.sound_laws.failed_pushes_step_into_their_clauses.Goals as goal

pub returns : goal.returns
returns c sys limits history good legal = history_fails sys limits history good legal
