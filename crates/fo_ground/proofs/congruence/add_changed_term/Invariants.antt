use Rattle.std.proofs.Common.{ℕ, ◌+◌, ◌<◌, ◌≤◌, [], slice_index}
use Rattle.fo_ground.specs.Axioms.{IsChangedTo}
use Rattle.fo_ground.specs.Emits.{Adds}
use Rattle.fo_ground.proofs.congruence.add_changed_term.Given as goal

-- what the terms before this one give was added
abbrev pub invariant-each : goal.invariant-each
invariant-each l = Adds l.lay.base [] (λ v. (t : ℕ) → slice_index l.args l.i + 1 ≤ t → t < l.p → IsChangedTo l.u l.lay l.place l.i t v) l.fn.into.vars l.fn.into.clauses l.into.vars l.into.clauses
