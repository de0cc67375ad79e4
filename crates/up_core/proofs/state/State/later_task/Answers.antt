use Rattle.std.proofs.Common.{inl, inr}
use Rattle.up_machine.specs.Due.{by_obligation, by_frontier, by_clause, by_quiet}
use Rattle.up_core.proofs.Chosen.{no-choice}
use Rattle.up_core.proofs.state.State.later_task.Goals as goal

pub returns-in-Some : goal.returns-in-Some
returns-in-Some c sys history m mirror =
    inl (c.in-Some.ensures sys c.args.limits.now history m mirror)

pub returns-in-Some-look_task : goal.returns-in-Some-look_task
returns-in-Some-look_task c sys history m mirror =
    inr (no-choice (by_obligation sys c.args.limits.now m) c.work_task.result c.in_default.not-Some (c.work_task.ensures sys c.args.limits.now history m mirror), inl (c.in-Some-look_task.ensures sys c.args.limits.now history m mirror))

pub returns-in-Some-push_task : goal.returns-in-Some-push_task
returns-in-Some-push_task c sys history m mirror =
    inr (no-choice (by_obligation sys c.args.limits.now m) c.work_task.result c.in_default.not-Some (c.work_task.ensures sys c.args.limits.now history m mirror), inr (no-choice (by_frontier sys c.args.limits.now m) c.look_task.result c.in_default-look_task.not-Some (c.look_task.ensures sys c.args.limits.now history m mirror), inl (c.in-Some-push_task.ensures sys c.args.limits.now history m mirror)))

pub returns-in-Some-quiet_task : goal.returns-in-Some-quiet_task
returns-in-Some-quiet_task c sys history m mirror =
    inr (no-choice (by_obligation sys c.args.limits.now m) c.work_task.result c.in_default.not-Some (c.work_task.ensures sys c.args.limits.now history m mirror), inr (no-choice (by_frontier sys c.args.limits.now m) c.look_task.result c.in_default-look_task.not-Some (c.look_task.ensures sys c.args.limits.now history m mirror), inr (no-choice (by_clause sys c.args.limits.now m) c.push_task.result c.in_default-push_task.not-Some (c.push_task.ensures sys c.args.limits.now history m mirror), inl (c.in-Some-quiet_task.ensures sys history m mirror))))

pub returns : goal.returns
returns c sys history m mirror =
    inr (no-choice (by_obligation sys c.args.limits.now m) c.work_task.result c.in_default.not-Some (c.work_task.ensures sys c.args.limits.now history m mirror), inr (no-choice (by_frontier sys c.args.limits.now m) c.look_task.result c.in_default-look_task.not-Some (c.look_task.ensures sys c.args.limits.now history m mirror), inr (no-choice (by_clause sys c.args.limits.now m) c.push_task.result c.in_default-push_task.not-Some (c.push_task.ensures sys c.args.limits.now history m mirror), inr (no-choice (by_quiet sys c.args.limits.now m) c.quiet_task.result c.in_default-quiet_task.not-Some (c.quiet_task.ensures sys history m mirror), tt))))
