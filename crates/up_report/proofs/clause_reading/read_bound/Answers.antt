use Rattle.up_report.proofs.ClauseBinders.{few_read}
use Rattle.up_report.proofs.clause_reading.read_bound.Goals as goal

pub read_body-requires-clause-few : goal.read_body-requires-clause-few
read_body-requires-clause-few c =
    rw c.as_slice-2.ensures (few_read c.args.sig.now c.args.names.now c.requires.named c.args.bytes.now c.in_ok-sorts.sorts c.in_ok-sorts.rest.now c.in_ok-sorts.ensures)
