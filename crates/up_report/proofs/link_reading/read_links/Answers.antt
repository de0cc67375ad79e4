use Rattle.std.proofs.Common.{◌+◌, ◌-◌, arith}
use Rattle.std.proofs.lemmas.Result.{err_from_is_err_and}
use Rattle.fo_text.proofs.Loops.{list_step, list_ends, list_done}
use Rattle.up_report.specs.Reading.{link_at, links_at}
use Rattle.up_report.proofs.Loops.{links_step, links_none}
use Rattle.up_report.proofs.link_reading.read_links.Goals as goal

pub returns-in_err-link : goal.returns-in_err-link
returns-in_err-link c =
    let p = err_from_is_err_and c.from_residual.result c.from_residual.ensures.1 in
    let sig = c.args.sig.now in
    let names = c.args.names.now in
    let k = links_step sig names c.args.count c.each._i c.each.copies c.each.rest.now c.each-test.true in
    rw (p.1, p.2) (list_ends c.in_err-link.field-0.0 c.each.links (link_at sig names c.each.copies c.each.rest.now) (λ l. links_at sig names (c.args.count - (c.each._i + 1)) 2 l) (links_at sig names (c.args.count - c.each._i) c.each.copies c.each.rest.now) (links_at sig names c.args.count 1 c.args.bytes.now) k c.in_err-link.ensures c.each.invariant.same)

pub each-preserved : goal.each-preserved
each-preserved c =
    let sig = c.args.sig.now in
    let names = c.args.names.now in
    let k = links_step sig names c.args.count c.each._i c.each.copies c.each.rest.now c.each-test.true in
    record {
      some = omega arith;
      same = rw c.in_ok-push.ensures.ok (list_step c.each.links (link_at sig names c.each.copies c.each.rest.now) (λ l. links_at sig names (c.args.count - (c.each._i + 1)) 2 l) c.in_ok-link.link c.in_ok-link.after.now (links_at sig names (c.args.count - c.each._i) c.each.copies c.each.rest.now) (links_at sig names c.args.count 1 c.args.bytes.now) k c.in_ok-link.ensures c.each.invariant.same);
    }

pub returns : goal.returns
returns c =
    let sig = c.args.sig.now in
    let names = c.args.names.now in
    list_done c.each.links c.each.rest.now (links_at sig names (c.args.count - c.each._i) c.each.copies c.each.rest.now) (links_at sig names c.args.count 1 c.args.bytes.now) (links_none sig names c.args.count c.each._i c.each.copies c.each.rest.now c.each-test.false) c.each.invariant.same
