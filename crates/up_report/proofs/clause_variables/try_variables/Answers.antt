use Rattle.std.proofs.Common.{length, ◌∙◌}
use Rattle.up_report.specs.ClauseReading.{variable_options, ended_variable}
use Rattle.up_report.proofs.ClauseOptions.{blocks_none, blocks_found, blocks_more, blocks_skip, blocks_all}
use Rattle.up_report.proofs.ClauseVariables.{not_of_sort, variable_found, variable_fails, variable_is}
use Rattle.up_report.proofs.clause_variables.try_variables.Goals as goal

pub each-init : goal.each-init
each-init c = blocks_none (ended_variable c.args.ending) (variable_options c.args.sorts.now c.args.ending c.args.sort) (length c.args.sorts.now) c.args.bytes.now

pub each-preserved-then-sorts-v : goal.each-preserved-then-sorts-v
each-preserved-then-sorts-v c =
    blocks_skip (ended_variable c.args.ending) (variable_options c.args.sorts.now c.args.ending c.args.sort) (length c.args.sorts.now) c.args.bytes.now c.each.v c.each.least c.each-test.true c.each.invariant
    (not_of_sort c.args.sorts.now c.args.ending c.args.sort c.each.v c.if-sorts-v.true)

pub returns-in-Ok : goal.returns-in-Ok
returns-in-Ok c =
    variable_is c.args.sorts.now c.args.ending c.args.sort c.args.bytes.now
    ∙ blocks_found (ended_variable c.args.ending) (variable_options c.args.sorts.now c.args.ending c.args.sort) (length c.args.sorts.now) c.args.bytes.now c.each.v c.each.least ((c.each.v, c.in-Ok.e), c.in-Ok.rest.now) c.each-test.true c.each.invariant
    (variable_found c.args.sorts.now c.args.ending c.args.sort c.each.v c.in-Ok.e c.args.bytes.now c.in-Ok.rest.now c.if-sorts-v.false (c.in-Ok.ensures {u = tt}))

pub each-preserved : goal.each-preserved
each-preserved c =
    rw c.min-least.ensures
    (blocks_more (ended_variable c.args.ending) (variable_options c.args.sorts.now c.args.ending c.args.sort) (length c.args.sorts.now) c.args.bytes.now c.each.v c.each.least c.in-Err-Fault.left c.each-test.true c.each.invariant
    (variable_fails c.args.sorts.now c.args.ending c.args.sort c.each.v c.in-Err-Fault.left c.args.bytes.now c.if-sorts-v.false (rw c.in-Err-Fault.field-0-is at c.in-Err-Fault.ensures)))

pub returns : goal.returns
returns c =
    variable_is c.args.sorts.now c.args.ending c.args.sort c.args.bytes.now
    ∙ blocks_all (ended_variable c.args.ending) (variable_options c.args.sorts.now c.args.ending c.args.sort) (length c.args.sorts.now) c.args.bytes.now c.each.v c.each.least c.each-test.false c.each.invariant
