use Rattle.std.proofs.Common.{◌≡◌, ◌+◌, ◌-◌, length}
use Rattle.fo_text.proofs.Loops.{with_front}
use Rattle.up_report.specs.ClauseReading.{chain_by, chain, binder_at}
use Rattle.up_report.proofs.clause_binders.read_binders.Given as goal

abbrev pub invariant-each : goal.invariant-each
invariant-each l = with_front l.sorts (chain_by (binder_at l.sig l.names) (length l.bytes + 1 - l.k) l.k l.rest) ≡ chain (binder_at l.sig l.names) 0 l.bytes
