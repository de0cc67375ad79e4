use Rattle.std.proofs.Common.{arith, ◌∙◌}
use Rattle.up_core.specs.Briefing.{state_from}
use Rattle.up_core.specs.Places.{is_unfinished}
use Rattle.up_core.proofs.Briefed.{done-state}
use Rattle.up_core.proofs.Placed.{joined-more, joined-end}
use Rattle.up_core.proofs.briefs.states_to_avoid.Goals as goal

pub push_state-requires : goal.push_state-requires
push_state-requires c w at = let k = c.open_at-next in c.requires k.result.number k.result.entry w k.ensures.there at

pub each-preserved : goal.each-preserved
each-preserved c =
    let a = c.args in
    let k = c.open_at-next in
    c.in_ok-push_state.ensures
    ∙ joined-more is_unfinished a.obligations.now.items (state_from a.sig.now a.history.now a.level) c.each.at k.result.number k.result.entry c.each.cubes k.ensures.number k.ensures.there c.each.invariant

pub returns : goal.returns
returns c =
    let a = c.args in
    joined-end is_unfinished a.obligations.now.items (state_from a.sig.now a.history.now a.level) c.each.at c.each.cubes (done-state a.sig.now a.history.now a.level)
    (omega (arith, c.each-test.false, c.each.auto.at-end, c.count_open-at-end.ensures)) c.each.invariant
