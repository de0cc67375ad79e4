use Rattle.std.proofs.Common.{◌≡◌, ◌++◌, length}
use Rattle.std.specs.Vec.Iter.{into_iter_items, into_iter_len}
use Rattle.up_rounds.proofs.AllReports.{HaveReportedTo}
use Rattle.up_rounds.proofs.reports.report_all.Given as goal

abbrev pub invariant-each : goal.invariant-each
invariant-each l = (l.yielded ++ into_iter_items l.answer-iterator ≡ into_iter_items l.initial.answer-iterator)
    × (into_iter_len l.answer-iterator ≡ length (into_iter_items l.answer-iterator))
    × (length l.yielded ≡ l.seat)
    × HaveReportedTo l.initial.core l.briefs l.seat l.core
