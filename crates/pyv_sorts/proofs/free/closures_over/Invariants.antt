use Rattle.std.proofs.Common.{◌≡◌, ◌++◌, drop, map}
use Rattle.pyv_sorts.specs.Closures.{named_of, part_names}
use Rattle.pyv_sorts.specs.Placing.{names_in}
use Rattle.pyv_sorts.proofs.free.closures_over.Given as goal

abbrev pub invariant-each : goal.invariant-each
invariant-each l = part_names l.closures.items ++ map (named_of (names_in l.variables)) (part_names (drop l.part-index l.parts)) ≡ map (named_of (names_in l.variables)) (part_names l.parts)
