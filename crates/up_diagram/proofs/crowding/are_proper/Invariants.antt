use Rattle.std.proofs.Common.{ℕ, ◌<◌, get_or}
use Rattle.up_diagram.specs.declared.cube.Flat.{Flat}
use Rattle.up_diagram.specs.Crowds.{IsProper}
use Rattle.up_diagram.proofs.crowding.are_proper.Given as goal

-- those before this one say it of no variable
abbrev pub invariant-each : goal.invariant-each
invariant-each l = (k : ℕ) (d : Flat) → k < l.lit-index → IsProper (get_or l.lits k d)
