use Rattle.fo_text.specs.Reading.{choose}
use Rattle.up_report.specs.declared.clause_heads.Head.TheVariants.{Nothing}
use Rattle.up_report.specs.ClauseReading.{head_text, heads}
use Rattle.up_report.proofs.ClauseHeads.{front_found, front_later}
use Rattle.up_report.proofs.clause_symbols.read_body_head.Goals as goal

pub returns-in-Ok : goal.returns-in-Ok
returns-in-Ok c = let h = c.in-Ok.ensures {u = tt} in front_found c.args.sig.now c.args.names.now Nothing (heads c.args.sig.now c.args.sorts.now) c.args.bytes.now c.in-Ok.rest.now h.read

pub returns-in-Err-Fault : goal.returns-in-Err-Fault
returns-in-Err-Fault c =
    let h = rw c.in-Err-Fault.field-0-is at c.in-Err-Fault.ensures.read in
    rw (front_later c.args.sig.now c.args.names.now Nothing (heads c.args.sig.now c.args.sorts.now) c.in-Err-Fault.left c.args.bytes.now h)
    (c.later.ensures (choose (head_text c.args.sig.now c.args.names.now) (heads c.args.sig.now c.args.sorts.now) c.args.bytes.now) c.read_head.ensures)
