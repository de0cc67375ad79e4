use Rattle.std.proofs.Common.{◌≡◌, map, take, get_or}
use Rattle.fo_core.proofs.tuples.sizes_of.Given as goal

abbrev pub invariant-each : goal.invariant-each
invariant-each l = l.ns ≡ map (λ s. get_or l.sizes s 0) (take l.s-index l.sorts)
