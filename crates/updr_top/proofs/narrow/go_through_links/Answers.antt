use Rattle.std.proofs.Common.{arith}
use Rattle.updr_top.specs.Narrow.{IsNarrowLink}
use Rattle.updr_top.proofs.EachOne.{one_more}
use Rattle.updr_top.proofs.narrow.go_through_links.Goals as goal

pub each-preserved : goal.each-preserved
each-preserved c = one_more IsNarrowLink c.args.links.now c.each.link-index c.link-item.result c.each.invariant c.each-test.true c.link-item.is c.go_through_link.ensures

pub returns : goal.returns
returns c = let all = c.each-test.false in λ k d lt. c.each.invariant k d (omega (arith, all, lt))
