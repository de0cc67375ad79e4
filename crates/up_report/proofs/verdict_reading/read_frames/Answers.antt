use Rattle.up_report.proofs.ReadVerdicts.{some_are_read}
use Rattle.up_report.proofs.verdict_reading.read_frames.Goals as goal

pub read_all_leaves-requires-clause-some : goal.read_all_leaves-requires-clause-some
read_all_leaves-requires-clause-some c =
    let h = some_are_read c.args.sig.now c.args.names.now c.requires.signature c.requires.named c.args.last c.requires.few c.args.bytes.now c.in_ok-clauses.clauses c.in_ok-clauses.rest.now c.in_ok-clauses.ensures in
    rw c.len-count.ensures h
