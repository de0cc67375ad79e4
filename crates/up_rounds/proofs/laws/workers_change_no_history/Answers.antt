use Rattle.up_rounds.proofs.AlikeLimits.{alike_one}
use Rattle.up_rounds.proofs.laws.workers_change_no_history.Goals as goal

pub returns : goal.returns
returns c = alike_one
