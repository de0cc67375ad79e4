use Rattle.std.proofs.Common.{◌+◌, drop, get_or}
use Rattle.std.proofs.lemmas.Result.{err_from_is_err_and}
use Rattle.fo_text.proofs.Loops.{list_step, list_ends, list_done}
use Rattle.up_report.specs.Reading.{map_at, maps_at}
use Rattle.up_report.proofs.Loops.{maps_step, maps_none}
use Rattle.up_report.proofs.link_reading.read_maps.Goals as goal

pub returns-in_err-images : goal.returns-in_err-images
returns-in_err-images c =
    let p = err_from_is_err_and c.from_residual.result c.from_residual.ensures.1 in
    let k = maps_step c.args.names.now c.args.from.now c.args.to.now c.each.i c.index-names-i.result c.each.rest.now c.each-test.true c.requires.from_each c.requires.to_each c.index-names-i.is in
    rw (p.1, p.2) (list_ends c.in_err-images.field-0.0 c.each.maps (map_at c.index-names-i.result (get_or c.args.from.now c.each.i 0) (get_or c.args.to.now c.each.i 0) c.each.rest.now) (λ l. maps_at (drop (c.each.i + 1) c.args.names.now) (drop (c.each.i + 1) c.args.from.now) (drop (c.each.i + 1) c.args.to.now) l) (maps_at (drop c.each.i c.args.names.now) (drop c.each.i c.args.from.now) (drop c.each.i c.args.to.now) c.each.rest.now) (maps_at c.args.names.now c.args.from.now c.args.to.now c.args.bytes.now) k c.in_err-images.ensures c.each.invariant)

pub each-preserved : goal.each-preserved
each-preserved c =
    let k = maps_step c.args.names.now c.args.from.now c.args.to.now c.each.i c.index-names-i.result c.each.rest.now c.each-test.true c.requires.from_each c.requires.to_each c.index-names-i.is in
    rw c.in_ok-push.ensures.ok (list_step c.each.maps (map_at c.index-names-i.result (get_or c.args.from.now c.each.i 0) (get_or c.args.to.now c.each.i 0) c.each.rest.now) (λ l. maps_at (drop (c.each.i + 1) c.args.names.now) (drop (c.each.i + 1) c.args.from.now) (drop (c.each.i + 1) c.args.to.now) l) c.in_ok-images.images c.in_ok-images.after.now (maps_at (drop c.each.i c.args.names.now) (drop c.each.i c.args.from.now) (drop c.each.i c.args.to.now) c.each.rest.now) (maps_at c.args.names.now c.args.from.now c.args.to.now c.args.bytes.now) k c.in_ok-images.ensures c.each.invariant)

pub returns : goal.returns
returns c = list_done c.each.maps c.each.rest.now (maps_at (drop c.each.i c.args.names.now) (drop c.each.i c.args.from.now) (drop c.each.i c.args.to.now) c.each.rest.now) (maps_at c.args.names.now c.args.from.now c.args.to.now c.args.bytes.now) (maps_none c.args.names.now c.args.from.now c.args.to.now c.each.i c.each.rest.now c.each-test.false) c.each.invariant
