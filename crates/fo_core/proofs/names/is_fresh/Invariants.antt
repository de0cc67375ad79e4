use Rattle.std.proofs.Common.{◌≡◌, ℕ, ◌<◌, [], get_or}
use Rattle.fo_core.proofs.names.is_fresh.Given as goal

-- no name before this one is the name
abbrev pub invariant-each : goal.invariant-each
invariant-each l = (i : ℕ) → i < l.other-index → ¬ (get_or l.names i [] ≡ l.name)
