use Rattle.std.proofs.Common.{true}
use Rattle.fo_text.specs.Reading.{choose}
use Rattle.up_report.specs.ClauseReading.{head_text, signed_heads}
use Rattle.up_report.proofs.ClauseHeads.{signed_found, signed_later}
use Rattle.up_report.proofs.clause_symbols.read_symbol.Goals as goal

pub returns-in-Ok : goal.returns-in-Ok
returns-in-Ok c = signed_found c.args.sig.now c.args.names.now c.args.sorts.now _ c.args.bytes.now (c.in-Ok.ensures {u = tt})

pub returns-in-Err-Fault : goal.returns-in-Err-Fault
returns-in-Err-Fault c =
    rw (signed_later c.args.sig.now c.args.names.now c.args.sorts.now c.in-Err-Fault.left c.args.bytes.now (rw c.in-Err-Fault.field-0-is at c.in-Err-Fault.ensures))
    (c.later.ensures (choose (head_text c.args.sig.now c.args.names.now) (signed_heads c.args.sig.now c.args.sorts.now true) c.args.bytes.now) c.read_signed-in-Err-Fault.ensures)
