use Rattle.up_report.proofs.ClauseHeads.{first_head_read}
use Rattle.up_report.proofs.clause_reading.read_clause.Goals as goal

pub read_from-requires-clause-head : goal.read_from-requires-clause-head
read_from-requires-clause-head c = first_head_read c.args.sig.now c.args.names.now c.in_ok-head.head c.in_ok-level.rest.now c.in_ok-head.rest.now c.in_ok-head.ensures
