use Rattle.std.proofs.Common.{inl, inr}
use Rattle.up_machine.specs.Due.{by_end, by_closed_level, by_root, by_steps}
use Rattle.up_core.proofs.Chosen.{no-choice}
use Rattle.up_core.proofs.state.State.due.Goals as goal

pub returns-in-Some : goal.returns-in-Some
returns-in-Some c sys history m mirror =
    inl (c.in-Some.ensures sys c.args.limits.now history m mirror)

pub returns-in-Some-closed_task : goal.returns-in-Some-closed_task
returns-in-Some-closed_task c sys history m mirror =
    inr (no-choice (by_end sys c.args.limits.now m) c.ended_task.result c.in_default.not-Some (c.ended_task.ensures sys c.args.limits.now history m mirror), inl (c.in-Some-closed_task.ensures sys c.args.limits.now history m mirror))

pub returns-in-Some-root_task : goal.returns-in-Some-root_task
returns-in-Some-root_task c sys history m mirror =
    inr (no-choice (by_end sys c.args.limits.now m) c.ended_task.result c.in_default.not-Some (c.ended_task.ensures sys c.args.limits.now history m mirror), inr (no-choice (by_closed_level sys c.args.limits.now m) c.closed_task.result c.in_default-closed_task.not-Some (c.closed_task.ensures sys c.args.limits.now history m mirror), inl (c.in-Some-root_task.ensures sys c.args.limits.now history m mirror)))

pub returns-in-Some-spent_task : goal.returns-in-Some-spent_task
returns-in-Some-spent_task c sys history m mirror =
    inr (no-choice (by_end sys c.args.limits.now m) c.ended_task.result c.in_default.not-Some (c.ended_task.ensures sys c.args.limits.now history m mirror), inr (no-choice (by_closed_level sys c.args.limits.now m) c.closed_task.result c.in_default-closed_task.not-Some (c.closed_task.ensures sys c.args.limits.now history m mirror), inr (no-choice (by_root sys c.args.limits.now m) c.root_task.result c.in_default-root_task.not-Some (c.root_task.ensures sys c.args.limits.now history m mirror), inl (c.in-Some-spent_task.ensures sys history m mirror))))

pub returns : goal.returns
returns c sys history m mirror =
    inr (no-choice (by_end sys c.args.limits.now m) c.ended_task.result c.in_default.not-Some (c.ended_task.ensures sys c.args.limits.now history m mirror), inr (no-choice (by_closed_level sys c.args.limits.now m) c.closed_task.result c.in_default-closed_task.not-Some (c.closed_task.ensures sys c.args.limits.now history m mirror), inr (no-choice (by_root sys c.args.limits.now m) c.root_task.result c.in_default-root_task.not-Some (c.root_task.ensures sys c.args.limits.now history m mirror), inr (no-choice (by_steps sys c.args.limits.now m) c.spent_task.result c.in_default-spent_task.not-Some (c.spent_task.ensures sys history m mirror), c.later_task.ensures sys history m mirror))))
