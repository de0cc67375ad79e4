use Rattle.turnstile.specs.Views.{IsOf, IsOutside, HasNumbers}
use Rattle.turnstile.proofs.tests.LeaveEachVisitLog.visit.Given as goal

abbrev pub invariant-loop-count : goal.invariant-loop-count
invariant-loop-count g l = IsOf l.shared l.pass × IsOutside l.pass × HasNumbers l.pass l.fn.pass.from l.fn.pass.to
