use Rattle.up_rounds.proofs.FirstDue.{retires_none}
use Rattle.up_rounds.proofs.settling.retire_first.Goals as goal

pub returns-in-None : goal.returns-in-None
returns-in-None c = retires_none c.args.core.now c.in_ok-cover.field-0 c.in-None.is c.in_ok-cover.ensures
