use Rattle.std.proofs.Common.{ℕ, ◌<◌, ◌≤◌, []}
use Rattle.fo_ground.specs.Axioms.{IsChangedRow}
use Rattle.fo_ground.specs.Emits.{Adds}
use Rattle.fo_ground.proofs.congruence.add_functions.Given as goal

-- the terms before this one were changed
abbrev pub invariant-each : goal.invariant-each
invariant-each l = Adds l.lay.base [] (λ v. (t : ℕ) → 0 ≤ t → t < l.place → IsChangedRow l.u l.lay t v) l.fn.into.vars l.fn.into.clauses l.into.vars l.into.clauses
