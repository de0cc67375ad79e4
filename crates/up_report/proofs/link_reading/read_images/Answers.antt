use Rattle.std.proofs.Common.{◌+◌, ◌-◌}
use Rattle.std.proofs.lemmas.Result.{err_from_is_err_and}
use Rattle.fo_text.specs.Reading.{number_at, values_at}
use Rattle.fo_text.proofs.Loops.{list_step, list_ends, list_done, values_step, values_none}
use Rattle.up_report.proofs.link_reading.read_images.Goals as goal

pub returns-in_err-image : goal.returns-in_err-image
returns-in_err-image c =
    let p = err_from_is_err_and c.from_residual.result c.from_residual.ensures.1 in
    let k = values_step c.args.count c.each.i c.args.most c.ending.result c.each.rest.now c.each-test.true c.ending.ensures.is in
    rw (p.1, p.2) (list_ends c.in_err-image.field-0.0 c.each.images (number_at 0 c.args.most c.ending.result c.each.rest.now) (λ l. values_at (c.args.count - (c.each.i + 1)) c.args.most l) (values_at (c.args.count - c.each.i) c.args.most c.each.rest.now) (values_at c.args.count c.args.most c.args.bytes.now) k c.in_err-image.ensures c.each.invariant)

pub each-preserved : goal.each-preserved
each-preserved c =
    let k = values_step c.args.count c.each.i c.args.most c.ending.result c.each.rest.now c.each-test.true c.ending.ensures.is in
    rw c.in_ok-push.ensures.ok (list_step c.each.images (number_at 0 c.args.most c.ending.result c.each.rest.now) (λ l. values_at (c.args.count - (c.each.i + 1)) c.args.most l) c.in_ok-image.image c.in_ok-image.after.now (values_at (c.args.count - c.each.i) c.args.most c.each.rest.now) (values_at c.args.count c.args.most c.args.bytes.now) k c.in_ok-image.ensures c.each.invariant)

pub returns : goal.returns
returns c = list_done c.each.images c.each.rest.now (values_at (c.args.count - c.each.i) c.args.most c.each.rest.now) (values_at c.args.count c.args.most c.args.bytes.now) (values_none c.args.count c.each.i c.args.most c.each.rest.now c.each-test.false) c.each.invariant
