use Rattle.std.proofs.Common.{below_more}
use Rattle.fo_min.specs.Known.{IsNamed}
use Rattle.fo_min.proofs.naming.is_sort_named.Goals as goal

pub each-preserved : goal.each-preserved
each-preserved c =
    below_more (IsNamed c.args.size c.args.own.now) c.each.y c.each.invariant
    (c.is_named.ensures c.if-not-is_named.false)
