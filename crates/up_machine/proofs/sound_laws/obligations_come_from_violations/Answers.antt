use Rattle.up_machine.proofs.Origins.{history_origins}
use Rattle.up_machine.proofs.sound_laws.obligations_come_from_violations.Goals as goal

pub returns : goal.returns
returns c sys limits history good legal = history_origins sys limits history good legal
