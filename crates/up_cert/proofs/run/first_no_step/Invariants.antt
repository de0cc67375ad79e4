use Rattle.std.proofs.Common.{◌≡◌}
use Rattle.up_cert.specs.Spots.{AreSteps}
use Rattle.up_cert.proofs.run.first_no_step.Given as goal

-- the copies before this one step to the next ones
abbrev pub invariant-each : goal.invariant-each
invariant-each l = record { same : l.env ≡ l.fn.env; before : AreSteps l.sys l.w l.k }
