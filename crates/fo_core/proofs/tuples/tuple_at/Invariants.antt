use Rattle.std.proofs.Common.{map}
use Rattle.std.specs.Prelude.{slice_index}
use Rattle.fo_core.proofs.TupleDigits.{AreFound}
use Rattle.fo_core.proofs.tuples.tuple_at.Given as goal

-- the digits from this one on are found
abbrev pub invariant-each : goal.invariant-each
invariant-each l = AreFound (map (slice_index l.sizes) l.sorts) l.digits.items l.i l.rest l.fn.number
