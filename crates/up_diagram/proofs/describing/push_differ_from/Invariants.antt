use Rattle.std.proofs.Common.{◌≡◌, ◌++◌}
use Rattle.std.specs.List.{flat_map, range_with_len}
use Rattle.up_diagram.specs.Diagrams.{pair_at}
use Rattle.up_diagram.proofs.describing.push_differ_from.Given as goal

-- the variables before j are looked at
abbrev pub invariant-each : goal.invariant-each
invariant-each l = l.lits ≡ l.fn.lits ++ flat_map (pair_at l.sorts l.i) (range_with_len 0 l.j)
