use Rattle.std.proofs.Common.{◌≡◌, drop}
use Rattle.std.specs.List.{list_all}
use Rattle.up_report.specs.ClauseReading.{has_variable}
use Rattle.up_report.proofs.clause_symbols.have_variables.Given as goal

abbrev pub invariant-each : goal.invariant-each
invariant-each l = list_all (has_variable l.sorts) (drop l.sort-index l.wanted) ≡ list_all (has_variable l.sorts) l.wanted
