use Rattle.std.proofs.Common.{◌≡◌, ◌+◌, ◌-◌, length}
use Rattle.fo_text.proofs.Loops.{with_front}
use Rattle.up_report.specs.ClauseReading.{chain_by, denial_at, denials_after}
use Rattle.up_report.proofs.clause_denials.read_denials.Given as goal

abbrev pub invariant-each : goal.invariant-each
invariant-each l =
    with_front l.lits (chain_by (λ k. denial_at l.sig l.names l.sorts) (length l.bytes + 1 - l.i) l.i l.rest) ≡ denials_after l.sig l.names l.sorts l.fn.lits l.bytes
