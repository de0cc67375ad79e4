use Rattle.up_rounds.proofs.Joining.{joined}
use Rattle.up_rounds.proofs.Parting.{parted}
use Rattle.up_rounds.proofs.laws.rounds_come_one_after_another.Goals as goal

pub returns-clause-joined : goal.returns-clause-joined
returns-clause-joined c = joined

pub returns-clause-parted : goal.returns-clause-parted
returns-clause-parted c = parted
