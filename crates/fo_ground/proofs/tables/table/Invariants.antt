use Rattle.std.proofs.Common.{◌≡◌, map}
use Rattle.std.specs.List.{range_with_len}
use Rattle.prop_core.specs.Formula.{value_of}
use Rattle.fo_ground.specs.Reading.{value_by}
use Rattle.fo_ground.proofs.tables.table.Given as goal

-- the tuples with smaller numbers have their entries
abbrev pub invariant-each : goal.invariant-each
invariant-each l = l.entries.items ≡ map (value_by l.u l.lay (value_of l.values) l.copy l.symbol) (range_with_len 0 l.number)
