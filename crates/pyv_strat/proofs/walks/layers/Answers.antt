use Rattle.std.proofs.Common.{◌≡◌, arith}
use Rattle.pyv_strat.proofs.LayerLemmas.{layer-added, layers-more}
use Rattle.pyv_strat.proofs.walks.layers.Goals as goal

pub each-preserved : goal.each-preserved
each-preserved c =
    let marks = rw c.as_slice.ensures.value at c.in_ok-before.ensures.marks in
    record {
      kept = rw (c.in_ok-push.ensures.ok, c.from_vec.ensures) (layers-more c.args.edges.now c.args.goal c.args.sorts c.each.k c.each.layers c.each.layer.items c.each.invariant.kept c.each.invariant.long c.each.invariant.next);
      long = omega (arith, c.in_ok-before.ensures.len, c.as_slice.ensures.len, c.each.invariant.long);
      next = layer-added c.args.edges.now (λ b. b ≡ c.args.goal) c.each.k c.each.layer.items c.in_ok-before.before.items c.each.invariant.next marks;
    }
