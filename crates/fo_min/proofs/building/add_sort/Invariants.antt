use Rattle.std.proofs.Common.{◌≡◌, ◌++◌, replicate}
use Rattle.fo_min.proofs.building.add_sort.Given as goal

abbrev pub invariant-each : goal.invariant-each
invariant-each l = l.sorts ≡ l.fn.sorts ++ replicate l._i l.sort
