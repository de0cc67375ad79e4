use Rattle.std.proofs.Common.{arith, ◌∙◌}
use Rattle.up_core.specs.Places.{is_live}
use Rattle.up_core.specs.Telling.{told_from}
use Rattle.up_core.proofs.Listed.{gone-told}
use Rattle.up_core.proofs.Placed.{joined-more, joined-end}
use Rattle.up_core.proofs.verdict.told_clauses.Goals as goal

pub each-preserved : goal.each-preserved
each-preserved c =
    let k = c.live_at-clause in
    c.in_ok-push_told.ensures
    ∙ joined-more is_live c.args.clauses.now.items (told_from c.args.history.now c.args.level) c.each.at k.result.number k.result.entry c.each.told k.ensures.number k.ensures.there c.each.invariant

pub returns : goal.returns
returns c =
    joined-end is_live c.args.clauses.now.items (told_from c.args.history.now c.args.level) c.each.at c.each.told (gone-told c.args.history.now c.args.level)
    (omega (arith, c.each-test.false, c.each.auto.at-end, c.count_live-at-end.ensures)) c.each.invariant
