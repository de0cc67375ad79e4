use Rattle.up_report.proofs.ClauseHeads.{body_head_read}
use Rattle.up_report.proofs.clause_denials.read_body.Goals as goal

pub read_body_from-requires-clause-head : goal.read_body_from-requires-clause-head
read_body_from-requires-clause-head c = body_head_read c.args.sig.now c.args.names.now c.args.sorts.now c.in_ok-head.head c.args.bytes.now c.in_ok-head.rest.now c.in_ok-head.ensures
