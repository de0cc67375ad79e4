use Rattle.fo_min.proofs.WorldLemmas.{copy-cut}
use Rattle.fo_min.specs.Cut.{cut_copies as cut_copies_of}
use Rattle.fo_min.proofs.world.cut_copies.Goals as goal

pub each-preserved : goal.each-preserved
each-preserved c = record {
  each = c.in_ok-each.ensures;
  told =
      copy-cut c.args.counts.now c.args.copies c.each._d c.in_ok-each.each c.each.all c.push.new.self (cut_copies_of c.args.counts.now c.args.copies c.args.values.now)
      c.each.rest.now c.back-rest.result.now c.front.result.now c.in_ok-cut.field-0 c.each-test.true c.in_ok-each.ensures c.each.invariant.told
      c.front.ensures c.in_ok-cut.ensures c.in_ok-push.ensures.ok c.back-rest.ensures;
}
