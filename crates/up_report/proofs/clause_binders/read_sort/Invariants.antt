use Rattle.up_report.specs.ClauseReading.{ended_sort, sort_options}
use Rattle.up_report.proofs.ClauseOptions.{BlocksTried}
use Rattle.up_report.proofs.clause_binders.read_sort.Given as goal

abbrev pub invariant-each : goal.invariant-each
invariant-each l = BlocksTried (ended_sort l.names l.k) (sort_options l.k) l.sig.sorts l.bytes l.s l.least
