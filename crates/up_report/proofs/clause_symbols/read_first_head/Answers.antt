use Rattle.std.proofs.Common.{[], ◌∷◌}
use Rattle.std.proofs.lemmas.Bool.{eq-eqb, ne_eqb}
use Rattle.fo_text.specs.Reading.{choose}
use Rattle.up_report.specs.declared.clause_heads.Head.TheVariants.{Forall, Nothing}
use Rattle.up_report.specs.ClauseReading.{head_text, heads}
use Rattle.up_report.proofs.ClauseHeads.{front_found, front_later, first_none, first_some}
use Rattle.up_report.proofs.clause_symbols.read_first_head.Goals as goal

pub returns-then-sig-eq0 : goal.returns-then-sig-eq0
returns-then-sig-eq0 c = rw (first_none c.args.sig.now c.args.names.now (eq-eqb _ _ c.if-sig-eq0.true)) c.read_body_head.ensures

pub returns-in-Ok : goal.returns-in-Ok
returns-in-Ok c =
    let h = c.in-Ok.ensures {u = tt} in
    rw (first_some c.args.sig.now c.args.names.now (ne_eqb _ _ c.if-sig-eq0.false)) (front_found c.args.sig.now c.args.names.now Forall (Nothing ∷ heads c.args.sig.now []) c.args.bytes.now c.in-Ok.rest.now h.read)

pub returns-in-Err-Fault : goal.returns-in-Err-Fault
returns-in-Err-Fault c =
    let h = rw c.in-Err-Fault.field-0-is at c.in-Err-Fault.ensures.read in
    rw (first_some c.args.sig.now c.args.names.now (ne_eqb _ _ c.if-sig-eq0.false))
    (rw (front_later c.args.sig.now c.args.names.now Forall (Nothing ∷ heads c.args.sig.now []) c.in-Err-Fault.left c.args.bytes.now h)
    (c.later.ensures (choose (head_text c.args.sig.now c.args.names.now) (Nothing ∷ heads c.args.sig.now []) c.args.bytes.now) c.read_body_head-in-Err-Fault.ensures))
