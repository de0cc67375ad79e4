use Rattle.std.proofs.Common.{◌≡◌, map, take}
use Rattle.up_report.specs.ClauseReading.{stands}
use Rattle.up_report.proofs.clause_symbols.standing.Given as goal

abbrev pub invariant-each : goal.invariant-each
invariant-each l = l.each ≡ map (stands l.sorts) (take l.symbol-index l.symbol-items)
