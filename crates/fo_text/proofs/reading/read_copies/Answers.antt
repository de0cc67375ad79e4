use Rattle.std.proofs.Common.{◌+◌, ◌-◌}
use Rattle.std.proofs.lemmas.Result.{err_from_is_err_and}
use Rattle.fo_text.specs.Reading.{copy_at, copies_at}
use Rattle.fo_text.proofs.Loops.{list_step, list_ends, list_done, copies_step, copies_none}
use Rattle.fo_text.proofs.reading.read_copies.Goals as goal

pub returns-in_err-read : goal.returns-in_err-read
returns-in_err-read c =
    let p = err_from_is_err_and c.from_residual.result c.from_residual.ensures.1 in
    let k = copies_step c.args.lines.now c.args.count c.each.k c.each.rest.now c.each-test.true in
    rw (p.1, p.2) (list_ends c.in_err-read.field-0.0 c.each.copies (copy_at c.args.lines.now c.each.k c.each.rest.now) (λ l. copies_at c.args.lines.now (c.args.count - (c.each.k + 1)) (c.each.k + 1) l) (copies_at c.args.lines.now (c.args.count - c.each.k) c.each.k c.each.rest.now) (copies_at c.args.lines.now c.args.count 0 c.args.bytes.now) k c.in_err-read.ensures c.each.invariant)

pub each-preserved : goal.each-preserved
each-preserved c =
    let k = copies_step c.args.lines.now c.args.count c.each.k c.each.rest.now c.each-test.true in
    rw c.in_ok-push.ensures.ok (list_step c.each.copies (copy_at c.args.lines.now c.each.k c.each.rest.now) (λ l. copies_at c.args.lines.now (c.args.count - (c.each.k + 1)) (c.each.k + 1) l) c.in_ok-read.read c.in_ok-read.after.now (copies_at c.args.lines.now (c.args.count - c.each.k) c.each.k c.each.rest.now) (copies_at c.args.lines.now c.args.count 0 c.args.bytes.now) k c.in_ok-read.ensures c.each.invariant)

pub returns : goal.returns
returns c = list_done c.each.copies c.each.rest.now (copies_at c.args.lines.now (c.args.count - c.each.k) c.each.k c.each.rest.now) (copies_at c.args.lines.now c.args.count 0 c.args.bytes.now) (copies_none c.args.lines.now c.args.count c.each.k c.each.rest.now c.each-test.false) c.each.invariant
