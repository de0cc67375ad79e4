use Rattle.std.proofs.Common.{◌<◌, ℕ}
use Rattle.up_cert.specs.Clauses.{IsExcluded}
use Rattle.up_cert.specs.VerdictSpots.{clause_at}
use Rattle.up_cert.proofs.leaving.is_outside.Given as goal

-- no clause before this one excludes copy 0
abbrev pub invariant-each : goal.invariant-each
invariant-each l = (j : ℕ) → j < l.k → ¬ IsExcluded l.sys l.w l.level (clause_at l.clauses j)
