use Rattle.up_core.proofs.OpenChosen.{HasCounted}
use Rattle.up_core.proofs.tasks.open_seeds.Given as goal

-- the seeds among those before this one are counted
abbrev pub invariant-each : goal.invariant-each
invariant-each l = HasCounted l.obligations.items l.at l.count
