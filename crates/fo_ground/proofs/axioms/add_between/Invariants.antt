use Rattle.std.proofs.Common.{◌≡◌, ℕ, ◌<◌, ◌≤◌, true, []}
use Rattle.fo_ground.specs.Emits.{Adds}
use Rattle.fo_ground.specs.Layout.{same_var}
use Rattle.fo_ground.proofs.axioms.add_between.Given as goal

-- what the terms before this one give was added
abbrev pub invariant-each : goal.invariant-each
invariant-each l = Adds l.lay.base [] (λ v. (t : ℕ) → l.first ≤ t → t < l.q → v (same_var l.u l.lay l.p t) ≡ true → v (same_var l.u l.lay t l.r) ≡ true → v (same_var l.u l.lay l.p l.r) ≡ true) l.fn.into.vars l.fn.into.clauses l.into.vars l.into.clauses
