use Rattle.std.proofs.Common.{◌≡◌, ◌≤◌, Some, length, slice_get, subst, ◌∙◌, arith}
use Rattle.up_core.proofs.Gathered.{due-more, due-end}
use Rattle.up_core.proofs.clauses.gather_due.Goals as goal

pub put_due-requires : goal.put_due-requires
put_due-requires c = omega (arith, c.each.invariant.few, c.each.invariant.room, c.requires.room, c.each-test.true, c.each.auto.at-end)

pub each-preserved : goal.each-preserved
each-preserved c =
    let k = c.live_clause-clause in
    record {
      gathered = c.put_due.ensures.items
          ∙ due-more c.args.entries.now c.args.frontier c.each.at k.result.number k.result.entry c.each.due.items (subst (λ ks. slice_get ks c.each.at ≡ Some k.result.number) c.requires.live k.ensures.number) k.ensures.there c.each.invariant.gathered;
      few = omega (arith, c.put_due.ensures.more, c.each.invariant.few);
      room = c.put_due.ensures.capacity ∙ c.each.invariant.room;
    }

pub returns-clause-items : goal.returns-clause-items
returns-clause-items c =
    due-end c.args.entries.now c.args.frontier c.each.at c.each.due.items (subst (λ ks. length ks ≤ c.each.at) c.requires.live (omega (arith, c.each-test.false, c.each.auto.at-end))) c.each.invariant.gathered
