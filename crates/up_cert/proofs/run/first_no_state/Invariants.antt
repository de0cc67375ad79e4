use Rattle.std.proofs.Common.{◌≡◌}
use Rattle.up_cert.specs.Spots.{AreStates}
use Rattle.up_cert.proofs.run.first_no_state.Given as goal

-- the copies before this one are states
abbrev pub invariant-each : goal.invariant-each
invariant-each l = record { same : l.env ≡ l.fn.env; before : AreStates l.sys l.w l.k }
