use Rattle.std.proofs.Common.{◌≤◌, ◌↔◌, drop, length}
use Rattle.std.specs.List.{filter}
use Rattle.fo_core.specs.Tables.{is_like, AreTables}
use Rattle.fo_core.proofs.world.are_tables.Given as goal

-- the whole is as what is left
abbrev pub invariant-each : goal.invariant-each
invariant-each l = record {
  within : l.at ≤ length l.tables;
  left : AreTables l.sizes (filter (is_like l.mutable) (drop l.symbol-index l.symbols)) (drop l.at l.tables) ↔ AreTables l.sizes (filter (is_like l.mutable) l.symbols) l.tables;
}
