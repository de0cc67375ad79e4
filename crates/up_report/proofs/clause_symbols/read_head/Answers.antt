use Rattle.std.proofs.Common.{length, arith}
use Rattle.fo_text.specs.Reading.{choose}
use Rattle.up_report.specs.ClauseReading.{head_text, equal_heads}
use Rattle.up_report.proofs.ClauseHeads.{equal_chosen, symbol_chosen, head_later}
use Rattle.up_report.proofs.clause_symbols.read_head.Goals as goal

pub returns-in-Some : goal.returns-in-Some
returns-in-Some c =
    let h = c.in-Some.ensures {u = tt} in
    equal_chosen c.args.sig.now c.args.names.now c.requires.named c.args.sorts.now (omega arith) c.in-Some.v c.args.bytes.now c.in-Some.rest.now h.0 h.1

pub returns-in-Ok : goal.returns-in-Ok
returns-in-Ok c = symbol_chosen c.args.sig.now c.args.names.now c.requires.named c.args.sorts.now (omega arith) _ c.args.bytes.now (c.in-Ok.ensures {u = tt})

pub returns-in-Err-Fault : goal.returns-in-Err-Fault
returns-in-Err-Fault c =
    rw (head_later c.args.sig.now c.args.names.now c.args.sorts.now c.in-Err-Fault.left c.args.bytes.now (rw c.in-Err-Fault.field-0-is at c.in-Err-Fault.ensures))
    (c.later.ensures (choose (head_text c.args.sig.now c.args.names.now) (equal_heads (length c.args.sorts.now)) c.args.bytes.now) c.try_equal.ensures)
