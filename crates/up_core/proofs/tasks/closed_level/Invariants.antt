use Rattle.std.proofs.Common.{ℕ, ◌≤◌}
use Rattle.up_core.specs.Choice.{IsEmptyLevel}
use Rattle.up_core.proofs.tasks.closed_level.Given as goal

-- the levels before this one have live clauses
abbrev pub invariant-each : goal.invariant-each
invariant-each l = (i : ℕ) → 1 ≤ i → i ≤ l.below → ¬ IsEmptyLevel l.clauses.items l.secure i
