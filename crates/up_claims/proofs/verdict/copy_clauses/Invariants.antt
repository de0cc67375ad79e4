use Rattle.std.proofs.Common.{◌≡◌, take}
use Rattle.up_claims.proofs.verdict.copy_clauses.Given as goal

-- the clauses before this one are copied
abbrev pub invariant-each : goal.invariant-each
invariant-each l = l.copies ≡ take l.item-index l.clauses
