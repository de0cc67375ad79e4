use Rattle.std.proofs.Common.{[], ◌∷◌}
use Rattle.up_report.specs.declared.clause_heads.Head.TheVariants.{Equal}
use Rattle.up_report.specs.ClauseReading.{head_text}
use Rattle.up_report.proofs.ClauseOptions.{blocks_none, blocks_found, blocks_more, blocks_all}
use Rattle.up_report.proofs.ClauseHeads.{equal_found, equal_fails}
use Rattle.up_report.proofs.clause_symbols.try_equal.Goals as goal

pub each-init : goal.each-init
each-init c = blocks_none (head_text c.args.sig.now c.args.names.now) (λ i. Equal i ∷ []) c.args.count c.args.bytes.now

pub returns-in-Ok : goal.returns-in-Ok
returns-in-Ok c =
    blocks_found (head_text c.args.sig.now c.args.names.now) (λ i. Equal i ∷ []) c.args.count c.args.bytes.now c.each.v c.each.least (Equal c.each.v, c.in-Ok.rest.now) c.each-test.true c.each.invariant
    (equal_found c.args.sig.now c.args.names.now c.each.v c.args.bytes.now c.in-Ok.rest.now (c.in-Ok.ensures {u = tt}))

pub each-preserved : goal.each-preserved
each-preserved c =
    rw c.min-least.ensures
    (blocks_more (head_text c.args.sig.now c.args.names.now) (λ i. Equal i ∷ []) c.args.count c.args.bytes.now c.each.v c.each.least c.in-Err-Fault.left c.each-test.true c.each.invariant
    (equal_fails c.args.sig.now c.args.names.now c.each.v c.in-Err-Fault.left c.args.bytes.now (rw c.in-Err-Fault.field-0-is at c.in-Err-Fault.ensures)))

pub returns : goal.returns
returns c = blocks_all (head_text c.args.sig.now c.args.names.now) (λ i. Equal i ∷ []) c.args.count c.args.bytes.now c.each.v c.each.least c.each-test.false c.each.invariant
