use Rattle.std.proofs.Common.{◌+◌, length}
use Rattle.std.proofs.lemmas.Result.{err_from_is_err_and}
use Rattle.up_report.specs.ClauseReading.{denial_at, denials_after}
use Rattle.up_report.proofs.ClauseLoops.{chain_last, chain_more, chain_ends, chain_spent}
use Rattle.up_report.proofs.clause_denials.read_denials.Goals as goal

pub returns-in_err-lit : goal.returns-in_err-lit
returns-in_err-lit c =
    let p = err_from_is_err_and c.from_residual.result c.from_residual.ensures.1 in
    rw (p.1, p.2) (chain_ends (λ k. denial_at c.args.sig.now c.args.names.now c.args.sorts.now) (length c.args.bytes.now + 1) c.each.i c.each.lits c.each.rest.now (denials_after c.args.sig.now c.args.names.now c.args.sorts.now c.args.lits c.args.bytes.now) c.each-test.true c.in_err-lit.field-0.0 c.in_err-lit.ensures c.each.invariant)

pub returns-then-last : goal.returns-then-last
returns-then-last c =
    rw c.in_ok-push.ensures.ok (chain_last (λ k. denial_at c.args.sig.now c.args.names.now c.args.sorts.now) (length c.args.bytes.now + 1) c.each.i c.each.lits c.each.rest.now (denials_after c.args.sig.now c.args.names.now c.args.sorts.now c.args.lits c.args.bytes.now) c.each-test.true c.in_ok-lit.lit c.in_ok-lit.last c.in_ok-lit.after.now c.if-last.true c.in_ok-lit.ensures c.each.invariant)

pub each-preserved : goal.each-preserved
each-preserved c =
    rw c.in_ok-push.ensures.ok (chain_more (λ k. denial_at c.args.sig.now c.args.names.now c.args.sorts.now) (length c.args.bytes.now + 1) c.each.i c.each.lits c.each.rest.now (denials_after c.args.sig.now c.args.names.now c.args.sorts.now c.args.lits c.args.bytes.now) c.each-test.true c.in_ok-lit.lit c.in_ok-lit.last c.in_ok-lit.after.now c.if-last.false c.in_ok-lit.ensures c.each.invariant)

pub returns : goal.returns
returns c = chain_spent (λ k. denial_at c.args.sig.now c.args.names.now c.args.sorts.now) (length c.args.bytes.now + 1) c.each.i c.each.lits c.each.rest.now (denials_after c.args.sig.now c.args.names.now c.args.sorts.now c.args.lits c.args.bytes.now) c.each-test.false c.each.invariant
