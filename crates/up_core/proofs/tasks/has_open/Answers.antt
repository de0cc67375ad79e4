use Rattle.up_core.proofs.OpenChosen.{has-open}
use Rattle.up_core.proofs.tasks.has_open.Goals as goal

pub returns : goal.returns
returns c = has-open c.args.obligations.now.items c.count_open.result c.count_open.ensures
