use Rattle.std.proofs.Common.{◌≡◌, ◌++◌, drop}
use Rattle.pyv_sorts.specs.Closures.{numbers_of}
use Rattle.pyv_sorts.specs.Placing.{names_in}
use Rattle.pyv_sorts.proofs.free.numbers.Given as goal

abbrev pub invariant-each : goal.invariant-each
invariant-each l = l.found.items ++ numbers_of l.words (names_in (drop l.name-index l.names)) ≡ numbers_of l.words (names_in l.names)
