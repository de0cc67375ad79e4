use Rattle.std.proofs.Common.{◌≡◌, None, drop}
use Rattle.up_core.specs.Telling.{last_job}
use Rattle.up_core.proofs.links.last_taken.Given as goal

-- the job taken last before this event, and then by it and later ones
abbrev pub invariant-each : goal.invariant-each
invariant-each l = last_job l.worker l.last (drop l.event-index l.history) ≡ last_job l.worker None l.history
