use Rattle.up_machine.proofs.Histories.{only_stronger}
use Rattle.up_machine.proofs.laws.frames_only_grow_stronger.Goals as goal

pub returns : goal.returns
returns c = only_stronger
