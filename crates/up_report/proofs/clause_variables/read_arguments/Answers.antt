use Rattle.std.proofs.lemmas.Result.{err_from_is_err_and}
use Rattle.up_report.specs.ClauseReading.{arguments_at}
use Rattle.up_report.proofs.ClauseLoops.{argument_more, argument_ends, arguments_done}
use Rattle.up_report.proofs.clause_variables.read_arguments.Goals as goal

pub returns-in_err-variable : goal.returns-in_err-variable
returns-in_err-variable c =
    let p = err_from_is_err_and c.from_residual.result c.from_residual.ensures.1 in
    rw (p.1, p.2) (argument_ends c.args.sorts.now c.args.wanted.now c.each.i c.each.variables c.each.rest.now (arguments_at c.args.sorts.now c.args.wanted.now c.args.bytes.now) c.each-test.true c.in_err-variable.field-0.0 (rw c.argument_ending-ending.ensures at c.in_err-variable.ensures) c.each.invariant)

pub each-preserved : goal.each-preserved
each-preserved c =
    rw c.in_ok-push.ensures.ok (argument_more c.args.sorts.now c.args.wanted.now c.each.i c.each.variables c.each.rest.now (arguments_at c.args.sorts.now c.args.wanted.now c.args.bytes.now) c.each-test.true c.in_ok-variable.variable _ c.in_ok-variable.after.now (rw c.argument_ending-ending.ensures at c.in_ok-variable.ensures) c.each.invariant)

pub returns : goal.returns
returns c = arguments_done c.args.sorts.now c.args.wanted.now c.each.i c.each.variables c.each.rest.now (arguments_at c.args.sorts.now c.args.wanted.now c.args.bytes.now) c.each-test.false c.each.invariant
