use Rattle.std.proofs.Common.{◌≡◌, ◌++◌, drop}
use Rattle.prop_core.specs.Formula.{value_of}
use Rattle.fo_ground.specs.Reading.{tables_by}
use Rattle.fo_ground.proofs.tables.tables.Given as goal

-- the tables so far, with those of the symbols that are left, are all of them
abbrev pub invariant-each : goal.invariant-each
invariant-each l = l.tables.items ++ tables_by l.u l.lay (value_of l.values) l.mutable l.copy l.k (drop l.k l.symbols) ≡ tables_by l.u l.lay (value_of l.values) l.mutable l.copy 0 l.symbols
