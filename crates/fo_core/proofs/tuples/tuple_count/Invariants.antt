use Rattle.std.proofs.Common.{◌≡◌, ◌*◌, map, drop}
use Rattle.std.specs.Prelude.{slice_index}
use Rattle.fo_core.specs.Tables.{tuples}
use Rattle.fo_core.proofs.tuples.tuple_count.Given as goal

-- the number so far, times that of what is left
abbrev pub invariant-each : goal.invariant-each
invariant-each l = l.count * tuples (map (slice_index l.sizes) (drop l.s-index l.sorts)) ≡ tuples (map (slice_index l.sizes) l.sorts)
