use Rattle.std.proofs.Common.{◌≡◌, ℕ, ◌<◌}
use Rattle.std.specs.Prelude.{slice_index}
use Rattle.up_diagram.specs.Crowds.{SayDiffer}
use Rattle.up_diagram.proofs.crowding.are_apart.Given as goal

-- any two before this one are to differ
abbrev pub invariant-each : goal.invariant-each
invariant-each l = (i k : ℕ) → i < k → k < l.j → slice_index l.sorts i ≡ l.sort → slice_index l.sorts k ≡ l.sort → SayDiffer l.lits i k
