use Rattle.std.proofs.Common.{length}
use Rattle.up_report.specs.ClauseReading.{variable_options, ended_variable}
use Rattle.up_report.proofs.ClauseOptions.{BlocksTried}
use Rattle.up_report.proofs.clause_variables.try_variables.Given as goal

abbrev pub invariant-each : goal.invariant-each
invariant-each l = BlocksTried (ended_variable l.ending) (variable_options l.sorts l.ending l.sort) (length l.sorts) l.bytes l.v l.least
