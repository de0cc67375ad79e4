use Rattle.std.proofs.Common.{◌+◌, drop}
use Rattle.std.proofs.lemmas.Result.{err_from_is_err_and}
use Rattle.fo_text.specs.Reading.{size_at, sizes_at}
use Rattle.fo_text.proofs.Loops.{list_step, list_ends, list_done, sizes_step, sizes_none}
use Rattle.fo_text.proofs.reading.read_sizes.Goals as goal

pub returns-in_err-read : goal.returns-in_err-read
returns-in_err-read c =
    let p = err_from_is_err_and c.from_residual.result c.from_residual.ensures.1 in
    let k = sizes_step c.args.names.now c.each.name-index c.name-item.result c.each.rest.now c.each-test.true c.name-item.is in
    rw (p.1, p.2) (list_ends c.in_err-read.field-0.0 c.each.sizes (size_at c.name-item.result c.each.rest.now) (λ l. sizes_at (drop (c.each.name-index + 1) c.args.names.now) l) (sizes_at (drop c.each.name-index c.args.names.now) c.each.rest.now) (sizes_at c.args.names.now c.args.bytes.now) k c.in_err-read.ensures c.each.invariant)

pub each-preserved : goal.each-preserved
each-preserved c =
    let k = sizes_step c.args.names.now c.each.name-index c.name-item.result c.each.rest.now c.each-test.true c.name-item.is in
    rw c.in_ok-push.ensures.ok (list_step c.each.sizes (size_at c.name-item.result c.each.rest.now) (λ l. sizes_at (drop (c.each.name-index + 1) c.args.names.now) l) c.in_ok-read.read c.in_ok-read.after.now (sizes_at (drop c.each.name-index c.args.names.now) c.each.rest.now) (sizes_at c.args.names.now c.args.bytes.now) k c.in_ok-read.ensures c.each.invariant)

pub returns : goal.returns
returns c = list_done c.each.sizes c.each.rest.now (sizes_at (drop c.each.name-index c.args.names.now) c.each.rest.now) (sizes_at c.args.names.now c.args.bytes.now) (sizes_none c.args.names.now c.each.name-index c.each.rest.now c.each-test.false) c.each.invariant
