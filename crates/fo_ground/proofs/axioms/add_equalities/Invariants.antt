use Rattle.std.proofs.Common.{ℕ, ◌<◌, ◌≤◌, []}
use Rattle.fo_ground.specs.Axioms.{IsAlikeRow}
use Rattle.fo_ground.specs.Emits.{Adds}
use Rattle.fo_ground.proofs.axioms.add_equalities.Given as goal

-- the terms before this one were done
abbrev pub invariant-each : goal.invariant-each
invariant-each l = Adds l.lay.base [] (λ v. (t : ℕ) → 0 ≤ t → t < l.p → IsAlikeRow l.u l.lay t v) l.fn.into.vars l.fn.into.clauses l.into.vars l.into.clauses
