use Rattle.std.proofs.Common.{◌≡◌, ◌++◌, drop, map}
use Rattle.pyv_meaning.specs.View.{names_of}
use Rattle.pyv_sorts.specs.Noting.{unknown_in, number_in}
use Rattle.pyv_sorts.proofs.declare.sort_numbers.Given as goal

abbrev pub invariant-each : goal.invariant-each
invariant-each l = record {
  told : unknown_in l.sorts (names_of l.bytes (drop l.name-index l.names)) ≡ unknown_in l.sorts (names_of l.bytes l.names);
  made : l.numbers ++ map (number_in l.sorts) (names_of l.bytes (drop l.name-index l.names)) ≡ map (number_in l.sorts) (names_of l.bytes l.names);
}
