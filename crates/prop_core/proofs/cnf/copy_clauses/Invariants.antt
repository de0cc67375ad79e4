use Rattle.std.proofs.Common.{◌≡◌, take}
use Rattle.prop_core.proofs.cnf.copy_clauses.Given as goal

abbrev pub invariant-each : goal.invariant-each
invariant-each l = l.copies.items ≡ take l.clause-index l.clauses
