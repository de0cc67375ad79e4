use Rattle.std.proofs.Common.{◌≡◌, ◌++◌}
use Rattle.std.specs.List.{flat_map, range_with_len}
use Rattle.up_diagram.specs.Diagrams.{differ_from}
use Rattle.up_diagram.proofs.describing.push_differ.Given as goal

-- the variables before this one differ from later ones
abbrev pub invariant-each : goal.invariant-each
invariant-each l = l.lits ≡ l.fn.lits ++ flat_map (differ_from l.sorts) (range_with_len 0 l.i)
