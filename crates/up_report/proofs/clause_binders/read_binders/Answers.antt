use Rattle.std.proofs.Common.{◌+◌, length}
use Rattle.std.proofs.lemmas.Result.{err_from_is_err_and}
use Rattle.up_report.specs.ClauseReading.{chain, binder_at}
use Rattle.up_report.proofs.ClauseLoops.{chain_last, chain_more, chain_ends, chain_spent}
use Rattle.up_report.proofs.clause_binders.read_binders.Goals as goal

pub returns-in_err-sort : goal.returns-in_err-sort
returns-in_err-sort c =
    let p = err_from_is_err_and c.from_residual.result c.from_residual.ensures.1 in
    rw (p.1, p.2) (chain_ends (binder_at c.args.sig.now c.args.names.now) (length c.args.bytes.now + 1) c.each.k c.each.sorts c.each.rest.now (chain (binder_at c.args.sig.now c.args.names.now) 0 c.args.bytes.now) c.each-test.true c.in_err-sort.field-0.0 c.in_err-sort.ensures c.each.invariant)

pub returns-then-last : goal.returns-then-last
returns-then-last c =
    rw c.in_ok-push.ensures.ok (chain_last (binder_at c.args.sig.now c.args.names.now) (length c.args.bytes.now + 1) c.each.k c.each.sorts c.each.rest.now (chain (binder_at c.args.sig.now c.args.names.now) 0 c.args.bytes.now) c.each-test.true c.in_ok-sort.sort c.in_ok-sort.last c.in_ok-sort.after.now c.if-last.true c.in_ok-sort.ensures c.each.invariant)

pub each-preserved : goal.each-preserved
each-preserved c =
    rw c.in_ok-push.ensures.ok (chain_more (binder_at c.args.sig.now c.args.names.now) (length c.args.bytes.now + 1) c.each.k c.each.sorts c.each.rest.now (chain (binder_at c.args.sig.now c.args.names.now) 0 c.args.bytes.now) c.each-test.true c.in_ok-sort.sort c.in_ok-sort.last c.in_ok-sort.after.now c.if-last.false c.in_ok-sort.ensures c.each.invariant)

pub returns : goal.returns
returns c = chain_spent (binder_at c.args.sig.now c.args.names.now) (length c.args.bytes.now + 1) c.each.k c.each.sorts c.each.rest.now (chain (binder_at c.args.sig.now c.args.names.now) 0 c.args.bytes.now) c.each-test.false c.each.invariant
