use Rattle.std.proofs.Common.{◌∙◌}
use Rattle.up_core.proofs.Marked.{place-low, marks-more, marks-end}
use Rattle.up_core.proofs.leaves.mark_all.Goals as goal

pub each-preserved : goal.each-preserved
each-preserved c =
    let e = c.entry_at-entry.result in
    record {
      count = c.mark_entry.ensures.count ∙ c.each.invariant.count;
      place = place-low c.each.place c.next_place-place.result c.each.k e c.next_place-place.ensures c.each.invariant.place;
      marked = marks-more c.args.clauses.now c.each.k e c.entry_at-entry.ensures c.each.place c.next_place-place.result c.next_place-place.ensures c.each.marks c.mark_entry.new.marks c.mark_entry.ensures.count c.mark_entry.ensures.marked c.each.invariant.marked;
    }

pub returns : goal.returns
returns c = marks-end c.args.clauses.now c.each.k c.each.place c.each.marks _ c.each-test.false c.each.invariant.count c.each.invariant.marked
