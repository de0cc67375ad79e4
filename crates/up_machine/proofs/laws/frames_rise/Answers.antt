use Rattle.up_machine.proofs.FrameLaws.{rises}
use Rattle.up_machine.proofs.laws.frames_rise.Goals as goal

pub returns : goal.returns
returns c = rises
