use Rattle.std.proofs.Common.{◌≡◌, ◌++◌, map, take}
use Rattle.fo_min.specs.Search.{cell_at}
use Rattle.fo_min.proofs.places.add_table.Given as goal

-- the places of the tuples before this one
abbrev pub invariant-each : goal.invariant-each
invariant-each l = l.cells ≡ l.fn.cells ++ map (cell_at l.number l.copy) (take l.xs-index l.xs-items)
