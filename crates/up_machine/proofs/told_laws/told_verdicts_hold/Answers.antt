use Rattle.up_machine.proofs.ToldHolds.{told_holds}
use Rattle.up_machine.proofs.told_laws.told_verdicts_hold.Goals as goal

pub returns : goal.returns
returns c = told_holds
