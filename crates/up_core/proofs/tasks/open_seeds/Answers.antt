use Rattle.std.proofs.Common.{arith}
use Rattle.up_core.proofs.OpenChosen.{counted-more, counted-few, counted-end}
use Rattle.up_core.proofs.tasks.open_seeds.Goals as goal

pub each-preserved : goal.each-preserved
each-preserved c =
    let k = c.open_at in
    counted-more c.args.obligations.now.items c.each.at c.each.count c.count_seed-count.result k.result.number k.result.entry k.ensures.number k.ensures.there c.count_seed-count.ensures c.each.invariant

pub returns : goal.returns
returns c = counted-end c.args.obligations.now.items c.each.at c.each.count (omega (arith, c.each-test.false, c.each.auto.at-end, c.count_open-at-end.ensures)) c.each.invariant
