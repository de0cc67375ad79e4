use Rattle.std.proofs.Common.{◌≡◌, ◌-◌, ◌+◌, length, codes}
use Rattle.up_report.specs.ClauseReading.{clause_at}
use Rattle.up_report.specs.Reading.{gathered, clauses_at}
use Rattle.fo_text.specs.Reading.{many_by}
use Rattle.up_report.proofs.clauses_reading.read_more.Given as goal

abbrev pub invariant-each : goal.invariant-each
invariant-each l = gathered l.clauses (many_by l.stop (codes "clause ") (clause_at l.sig l.names l.levels.least l.levels.most) (length l.bytes + 1 - l._i) l.rest) ≡ gathered l.fn.first (clauses_at l.sig l.names l.levels.least l.levels.most l.stop l.bytes)
