use Rattle.std.proofs.Common.{◌≡◌, ℕ, ◌<◌}
use Rattle.std.specs.Prelude.{slice_index}
use Rattle.up_diagram.specs.Crowds.{SayDiffer}
use Rattle.up_diagram.proofs.crowding.is_apart.Given as goal

-- those before this one are to differ
abbrev pub invariant-each : goal.invariant-each
invariant-each l = (k : ℕ) → k < l.i → slice_index l.sorts k ≡ slice_index l.sorts l.j → SayDiffer l.lits k l.j
