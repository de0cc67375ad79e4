use Rattle.std.proofs.Common.{◌≡◌, ◌-◌, ◌+◌, ◌∷◌, []}
use Rattle.up_report.specs.Reading.{gathered, leaves_at}
use Rattle.up_report.proofs.leave_reading.read_leaves.Given as goal

abbrev pub invariant-each : goal.invariant-each
invariant-each l = gathered l.leaves (leaves_at l.sig l.names l.clauses (l.last - l.k) (l.k + 1) l.rest) ≡ gathered (l.fn.first ∷ []) (leaves_at l.sig l.names l.clauses (l.last - 1) 2 l.bytes)
