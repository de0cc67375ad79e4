use Rattle.std.proofs.Common.{◌≡◌, ◌++◌, replicate}
use Rattle.up_diagram.proofs.describing.push_sorts.Given as goal

-- the sort stands behind the others this many times
abbrev pub invariant-each : goal.invariant-each
invariant-each l = l.sorts ≡ l.fn.sorts ++ replicate l._i l.sort
