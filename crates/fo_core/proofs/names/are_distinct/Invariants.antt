use Rattle.std.proofs.Common.{◌≡◌, ℕ, ◌<◌, [], get_or}
use Rattle.fo_core.proofs.names.are_distinct.Given as goal

-- the names before this one are distinct
abbrev pub invariant-each : goal.invariant-each
invariant-each l = (i j : ℕ) → i < j → j < l.j → ¬ (get_or l.names i [] ≡ get_or l.names j [])
