use Rattle.up_machine.proofs.FrameLaws.{gone_too}
use Rattle.up_machine.proofs.laws.frames_avoid_clauses_live_or_gone.Goals as goal

pub returns : goal.returns
returns c = gone_too
