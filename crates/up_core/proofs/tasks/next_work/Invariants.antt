use Rattle.up_core.proofs.OpenChosen.{IsBestOf}
use Rattle.up_core.proofs.tasks.next_work.Given as goal

-- the best of those before this one
abbrev pub invariant-each : goal.invariant-each
invariant-each l = IsBestOf l.obligations.items l.at l.best
