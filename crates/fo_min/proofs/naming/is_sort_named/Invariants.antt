use Rattle.std.proofs.Common.{ℕ, ◌<◌}
use Rattle.fo_min.specs.Known.{IsNamed}
use Rattle.fo_min.proofs.naming.is_sort_named.Given as goal

abbrev pub invariant-each : goal.invariant-each
invariant-each l = (y : ℕ) → y < l.y → IsNamed l.size l.own y
