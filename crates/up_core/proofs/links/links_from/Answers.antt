use Rattle.std.proofs.Common.{◌∙◌, sym, arith}
use Rattle.up_machine.proofs.Lists.{none_is_some}
use Rattle.up_core.proofs.Chained.{can-step, chain-ends, chain-goes, is-there}
use Rattle.up_core.proofs.links.links_from.Goals as goal

pub unreachable-requires : goal.unreachable-requires
unreachable-requires c =
    let here = is-there c.args.sig.now c.args.history.now c.args.obligations.now c.args.top c.each.place c.each.origin.now c.entry_at-entry.result c.each.invariant.next c.entry_at-entry.ensures in
    none_is_some here.world (c.in-None.ensures ∙ here.at)

pub returns-in-None-parent_of : goal.returns-in-None-parent_of
returns-in-None-parent_of c =
    chain-ends c.args.sig.now c.args.history.now c.args.obligations.now c.args.start.now c.args.first c.each.links c.push.new.self c.each.origin.now c.in-Some.world.now c.each.place c.entry_at-entry.result c.in_ok-link_to-in-Some.field-0
    c.entry_at-entry.ensures (sym c.in-Some.ensures) c.in_ok-link_to-in-Some.ensures c.in_ok-push-in-Some.ensures.ok c.each.invariant.rest (sym c.parent_of.ensures ∙ c.in-None-parent_of.is)

pub each-preserved : goal.each-preserved
each-preserved c =
    let parent = sym c.parent_of.ensures ∙ c.in-Some-parent_of.is in
    let step = can-step c.args.sig.now c.args.history.now c.args.obligations.now c.args.top c.each._level c.each.place c.in-Some-parent_of.parent c.each.origin.now c.in-Some.world.now c.entry_at-entry.result c.requires.more c.each.invariant.next c.each.invariant.high
    c.entry_at-entry.ensures (sym c.in-Some.ensures) parent in
    record {
      next = step.next;
      high = step.high;
      rest = chain-goes c.args.sig.now c.args.history.now c.args.obligations.now c.args.start.now c.args.first c.each.links c.push.new.self c.each.origin.now c.in-Some.world.now c.each.place c.entry_at-entry.result c.in_ok-link_to-in-Some.field-0
          c.entry_at-entry.ensures (sym c.in-Some.ensures) c.in_ok-link_to-in-Some.ensures c.in_ok-push-in-Some.ensures.ok c.each.invariant.rest c.in-Some-parent_of.parent parent;
    }

pub unreachable-requires-2 : goal.unreachable-requires-2
unreachable-requires-2 c = omega (arith, c.each-test.false, c.each.invariant.high, c.each.invariant.next.high)
