use Rattle.std.proofs.Common.{arith}
use Rattle.up_report.proofs.ReadLinks.{text_of_read}
use Rattle.up_report.proofs.link_reading.read_link.Goals as goal

pub read_state-requires-clause-text : goal.read_state-requires-clause-text
read_state-requires-clause-text c =
    text_of_read c.args.sig.now c.args.names.now c.requires.signature c.requires.named c.args.copies c.args.bytes.now c.in_ok-origin.origin c.in_ok-origin.rest.now c.requires.some (omega arith) c.in_ok-origin.ensures
