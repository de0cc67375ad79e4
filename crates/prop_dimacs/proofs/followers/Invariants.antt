use Rattle.std.proofs.Common.{◌≡◌}
use Rattle.prop_dimacs.proofs.followers.Given as goal

abbrev pub invariant-each : goal.invariant-each
invariant-each l = l.checked.vars ≡ l.cnf.vars
