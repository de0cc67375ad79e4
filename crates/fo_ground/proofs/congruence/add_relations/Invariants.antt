use Rattle.std.proofs.Common.{ℕ, ◌<◌, ◌≤◌, []}
use Rattle.std.specs.Prelude.{slice_index_or}
use Rattle.fo_ground.specs.declared.grounded.Atom.TheVariants.{Helper}
use Rattle.fo_ground.specs.Axioms.{IsChangedAtom}
use Rattle.fo_ground.specs.Emits.{Adds}
use Rattle.fo_ground.proofs.congruence.add_relations.Given as goal

-- the atoms before this one were changed
abbrev pub invariant-each : goal.invariant-each
invariant-each l = Adds l.lay.base [] (λ v. (t : ℕ) → 0 ≤ t → t < l.atom-index → IsChangedAtom l.u l.lay (slice_index_or l.atoms t Helper) v) l.fn.into.vars l.fn.into.clauses l.into.vars l.into.clauses
