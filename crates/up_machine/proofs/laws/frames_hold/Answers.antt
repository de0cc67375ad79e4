use Rattle.up_machine.proofs.FrameLaws.{reached}
use Rattle.up_machine.proofs.laws.frames_hold.Goals as goal

pub returns : goal.returns
returns c = reached
