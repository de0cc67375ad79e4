use Rattle.std.proofs.Common.{◌≡◌, length, map, take}
use Rattle.fo_ground.proofs.classes.sizes.Given as goal

abbrev pub invariant-each : goal.invariant-each
invariant-each l = l.sizes.items ≡ map length (take l.of_sort-index l.heads)
