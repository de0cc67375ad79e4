use Rattle.std.proofs.Common.{length, arith, sym, ◌∙◌}
use Rattle.up_report.specs.ClauseReading.{head_text, symbol_heads}
use Rattle.up_report.proofs.ClauseOptions.{blocks_none, blocks_skip, blocks_found, blocks_more, blocks_all}
use Rattle.up_report.proofs.ClauseHeads.{symbol_passed, symbol_found, symbol_fails}
use Rattle.up_report.proofs.clause_symbols.read_signed.Goals as goal

pub each-init : goal.each-init
each-init c = blocks_none (head_text c.args.sig.now c.args.names.now) (symbol_heads c.args.sig.now c.args.sorts.now c.args.sign) (length c.args.sig.now.symbols) c.args.bytes.now

pub each-preserved-then-not-may_stand : goal.each-preserved-then-not-may_stand
each-preserved-then-not-may_stand c =
    blocks_skip (head_text c.args.sig.now c.args.names.now) (symbol_heads c.args.sig.now c.args.sorts.now c.args.sign) (length c.args.sig.now.symbols) c.args.bytes.now c.each.k c.each.least (omega (arith, c.len-k-end.ensures)) c.each.invariant
    (symbol_passed c.args.sig.now c.args.names.now c.args.sorts.now c.args.sign c.each.k (sym c.may_stand.ensures ∙ c.if-not-may_stand.true))

pub returns-in-Ok : goal.returns-in-Ok
returns-in-Ok c =
    blocks_found (head_text c.args.sig.now c.args.names.now) (symbol_heads c.args.sig.now c.args.sorts.now c.args.sign) (length c.args.sig.now.symbols) c.args.bytes.now c.each.k c.each.least _ (omega (arith, c.len-k-end.ensures)) c.each.invariant
    (symbol_found c.args.sig.now c.args.names.now c.args.sorts.now c.args.sign c.each.k c.in-Ok.e c.args.bytes.now c.in-Ok.rest.now (sym c.may_stand.ensures ∙ c.if-not-may_stand.false) (c.in-Ok.ensures {u = tt}))

pub each-preserved : goal.each-preserved
each-preserved c =
    rw c.min-least.ensures
    (blocks_more (head_text c.args.sig.now c.args.names.now) (symbol_heads c.args.sig.now c.args.sorts.now c.args.sign) (length c.args.sig.now.symbols) c.args.bytes.now c.each.k c.each.least c.in-Err-Fault.left (omega (arith, c.len-k-end.ensures)) c.each.invariant
    (symbol_fails c.args.sig.now c.args.names.now c.args.sorts.now c.args.sign c.each.k c.in-Err-Fault.left c.args.bytes.now (sym c.may_stand.ensures ∙ c.if-not-may_stand.false) (rw c.in-Err-Fault.field-0-is at c.in-Err-Fault.ensures)))

pub returns : goal.returns
returns c = blocks_all (head_text c.args.sig.now c.args.names.now) (symbol_heads c.args.sig.now c.args.sorts.now c.args.sign) (length c.args.sig.now.symbols) c.args.bytes.now c.each.k c.each.least (omega (arith, c.len-k-end.ensures)) c.each.invariant
