use Rattle.std.proofs.Common.{◌≡◌, ℕ, ◌<◌, [], length, get_or}
use Rattle.fo_core.proofs.names.are_apart.Given as goal

-- no name before this one stands in the other list
abbrev pub invariant-each : goal.invariant-each
invariant-each l = (i j : ℕ) → i < l.name-index → j < length l.others → ¬ (get_or l.others j [] ≡ get_or l.names i [])
