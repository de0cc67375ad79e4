use Rattle.up_report.proofs.ClauseHeads.{head_read}
use Rattle.up_report.proofs.clause_denials.read_denial.Goals as goal

pub read_denied-requires-clause-head : goal.read_denied-requires-clause-head
read_denied-requires-clause-head c = head_read c.args.sig.now c.args.names.now c.args.sorts.now c.in_ok-head.head c.args.bytes.now c.in_ok-head.rest.now c.in_ok-head.ensures
