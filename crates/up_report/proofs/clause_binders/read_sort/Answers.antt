use Rattle.std.proofs.Common.{◌∙◌}
use Rattle.up_report.specs.ClauseReading.{ended_sort, sort_options}
use Rattle.up_report.proofs.ClauseOptions.{blocks_none, blocks_found, blocks_more, blocks_all}
use Rattle.up_report.proofs.ClauseSorts.{sort_is, sort_found, sort_fails}
use Rattle.up_report.proofs.clause_binders.read_sort.Goals as goal

pub each-init : goal.each-init
each-init c = blocks_none (ended_sort c.args.names.now c.args.k) (sort_options c.args.k) c.args.sig.now.sorts c.args.bytes.now

pub returns-in-Ok : goal.returns-in-Ok
returns-in-Ok c =
    sort_is c.args.sig.now c.args.names.now c.args.k c.args.bytes.now
    ∙ blocks_found (ended_sort c.args.names.now c.args.k) (sort_options c.args.k) c.args.sig.now.sorts c.args.bytes.now c.each.s c.each.least ((c.each.s, c.in-Ok.e), c.in-Ok.rest.now) c.each-test.true c.each.invariant
    (sort_found c.args.sig.now c.args.names.now c.args.k c.args.bytes.now c.each.s c.in-Ok.e c.in-Ok.rest.now (c.in-Ok.ensures {u = tt}))

pub each-preserved : goal.each-preserved
each-preserved c =
    rw c.min-least.ensures
    (blocks_more (ended_sort c.args.names.now c.args.k) (sort_options c.args.k) c.args.sig.now.sorts c.args.bytes.now c.each.s c.each.least c.in-Err-Fault.left c.each-test.true c.each.invariant
    (sort_fails c.args.sig.now c.args.names.now c.args.k c.args.bytes.now c.each.s c.in-Err-Fault.left (rw c.in-Err-Fault.field-0-is at c.in-Err-Fault.ensures)))

pub returns : goal.returns
returns c = sort_is c.args.sig.now c.args.names.now c.args.k c.args.bytes.now ∙ blocks_all (ended_sort c.args.names.now c.args.k) (sort_options c.args.k) c.args.sig.now.sorts c.args.bytes.now c.each.s c.each.least c.each-test.false c.each.invariant
