use Rattle.std.proofs.Common.{◌≡◌, sum, take}
use Rattle.fo_min.proofs.world.total.Given as goal

abbrev pub invariant-each : goal.invariant-each
invariant-each l = l.total ≡ sum (take l.n-index l.numbers)
