use Rattle.std.proofs.Common.{ℕ, ◌<◌, ◌≤◌, []}
use Rattle.fo_ground.specs.Axioms.{IsChangedFact}
use Rattle.fo_ground.specs.Emits.{Adds}
use Rattle.fo_ground.proofs.congruence.add_changed_facts.Given as goal

-- the arguments before this one were changed
abbrev pub invariant-each : goal.invariant-each
invariant-each l = Adds l.lay.base [] (λ v. (t : ℕ) → 0 ≤ t → t < l.i → IsChangedFact l.u l.lay l.symbol l.copy l.args t v) l.fn.into.vars l.fn.into.clauses l.into.vars l.into.clauses
