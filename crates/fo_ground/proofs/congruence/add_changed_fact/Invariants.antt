use Rattle.std.proofs.Common.{ℕ, ◌<◌, ◌≤◌, []}
use Rattle.fo_ground.specs.Axioms.{IsFactChangedTo}
use Rattle.fo_ground.specs.Emits.{Adds}
use Rattle.fo_ground.proofs.congruence.add_changed_fact.Given as goal

-- what the terms before this one give was added
abbrev pub invariant-each : goal.invariant-each
invariant-each l = Adds l.lay.base [] (λ v. (t : ℕ) → l.first ≤ t → t < l.p → IsFactChangedTo l.u l.lay l.symbol l.copy l.args l.i t v) l.fn.into.vars l.fn.into.clauses l.into.vars l.into.clauses
