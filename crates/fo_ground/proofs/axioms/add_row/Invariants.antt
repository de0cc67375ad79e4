use Rattle.std.proofs.Common.{◌≡◌, ℕ, ◌+◌, ◌<◌, ◌≤◌, true, []}
use Rattle.fo_ground.specs.Axioms.{IsBetween}
use Rattle.fo_ground.specs.Emits.{Adds}
use Rattle.fo_ground.specs.Layout.{same_var}
use Rattle.fo_ground.proofs.axioms.add_row.Given as goal

-- the term is the same as itself, and what the terms before this one give was added
abbrev pub invariant-each : goal.invariant-each
invariant-each l = record {
  itself : Adds l.lay.base [] (λ v. v (same_var l.u l.lay l.p l.p) ≡ true) l.fn.into.vars l.fn.into.clauses l.initial.into.vars l.initial.into.clauses;
  later : Adds l.lay.base [] (λ v. (t : ℕ) → l.p + 1 ≤ t → t < l.r → IsBetween l.u l.lay l.p t v) l.initial.into.vars l.initial.into.clauses l.into.vars l.into.clauses;
}
