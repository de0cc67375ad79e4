use Rattle.up_machine.proofs.Histories.{retire_keeps}
use Rattle.up_machine.proofs.laws.a_retire_keeps_frames.Goals as goal

pub returns : goal.returns
returns c = retire_keeps
