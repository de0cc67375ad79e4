use Rattle.std.proofs.Common.{◌≡◌, map, true}
use Rattle.std.specs.List.{range_with_len}
use Rattle.prop_core.specs.Formula.{value_of}
use Rattle.fo_ground.specs.Reading.{tables_by}
use Rattle.fo_ground.proofs.world.read_world.Given as goal

-- the copies so far have their tables
abbrev pub invariant-each : goal.invariant-each
invariant-each l = l.copies.items ≡ map (λ c. tables_by l.u l.lay (value_of l.values) true c 0 l.symbols) (range_with_len 0 l.copy)
