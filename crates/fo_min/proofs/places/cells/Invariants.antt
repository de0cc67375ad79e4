use Rattle.std.proofs.Common.{◌≡◌}
use Rattle.fo_core.specs.Cells.{cells as cells_of}
use Rattle.fo_min.proofs.places.cells.Given as goal

-- the copies before this one are done
abbrev pub invariant-each : goal.invariant-each
invariant-each l = l.cells ≡ cells_of l.sig l.sizes l.d
