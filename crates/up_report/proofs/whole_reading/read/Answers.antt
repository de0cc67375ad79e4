use Rattle.std.proofs.Common.{sym, ◌∙◌}
use Rattle.std.proofs.lemmas.Bool.{eqb-true, eqb-false}
use Rattle.up_report.proofs.ReadReports.{same_report, more_after, ends_there, is_stopped}
use Rattle.up_report.proofs.whole_reading.read.Goals as goal

pub overflow_sub-result : goal.overflow_sub-result
overflow_sub-result c =
    (more_after c.args.sig.now c.args.names.now c.requires.signature c.requires.named c.args.bytes.now c.in-Ok.report c.in-Ok.rest.now c.in-Ok.ensures (eqb-false _ _ (sym c.is_empty.ensures ∙ c.if-not-is_empty.true))).few

pub returns-then-not-is_empty-clause-only : goal.returns-then-not-is_empty-clause-only
returns-then-not-is_empty-clause-only c =
    (more_after c.args.sig.now c.args.names.now c.requires.signature c.requires.named c.args.bytes.now c.in-Ok.report c.in-Ok.rest.now c.in-Ok.ensures (eqb-false _ _ (sym c.is_empty.ensures ∙ c.if-not-is_empty.true))).stops.none

pub returns-then-not-is_empty-clause-bad : goal.returns-then-not-is_empty-clause-bad
returns-then-not-is_empty-clause-bad c =
    (more_after c.args.sig.now c.args.names.now c.requires.signature c.requires.named c.args.bytes.now c.in-Ok.report c.in-Ok.rest.now c.in-Ok.ensures (eqb-false _ _ (sym c.is_empty.ensures ∙ c.if-not-is_empty.true))).stops

pub returns-else-not-is_empty-clause-found : goal.returns-else-not-is_empty-clause-found
returns-else-not-is_empty-clause-found c =
    ends_there c.args.sig.now c.args.names.now c.requires.signature c.requires.named c.args.bytes.now c.in-Ok.report c.in-Ok.rest.now c.in-Ok.ensures (eqb-true _ _ (sym c.is_empty.ensures ∙ c.if-not-is_empty.false))

pub returns-else-not-is_empty-clause-only : goal.returns-else-not-is_empty-clause-only
returns-else-not-is_empty-clause-only c = λ r h.
    same_report c.args.sig.now c.args.names.now c.requires.signature c.requires.named c.args.bytes.now c.in-Ok.report r c.in-Ok.rest.now c.in-Ok.ensures h

pub overflow_sub-result-in-Err-Fault : goal.overflow_sub-result-in-Err-Fault
overflow_sub-result-in-Err-Fault c =
    (is_stopped c.args.sig.now c.args.names.now c.requires.signature c.requires.named c.args.bytes.now c.in-Err-Fault.left (rw c.in-Err-Fault.field-0-is at c.in-Err-Fault.ensures)).few

pub returns-in-Err-Fault-clause-only : goal.returns-in-Err-Fault-clause-only
returns-in-Err-Fault-clause-only c =
    (is_stopped c.args.sig.now c.args.names.now c.requires.signature c.requires.named c.args.bytes.now c.in-Err-Fault.left (rw c.in-Err-Fault.field-0-is at c.in-Err-Fault.ensures)).stops.none

pub returns-in-Err-Fault-clause-bad : goal.returns-in-Err-Fault-clause-bad
returns-in-Err-Fault-clause-bad c =
    (is_stopped c.args.sig.now c.args.names.now c.requires.signature c.requires.named c.args.bytes.now c.in-Err-Fault.left (rw c.in-Err-Fault.field-0-is at c.in-Err-Fault.ensures)).stops
