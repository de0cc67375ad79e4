use Rattle.std.proofs.Common.{◌≡◌, take}
use Rattle.up_diagram.proofs.cube.Cube.copy.Given as goal

-- the literals before this one are copied
abbrev pub invariant-each : goal.invariant-each
invariant-each l = l.lits ≡ take l.lit-index l.lit-items
