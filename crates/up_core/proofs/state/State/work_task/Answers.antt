use Rattle.std.proofs.Common.{subst, None, Some, length}
use Rattle.up_core.specs.Choice.{IsBestPlace}
use Rattle.up_core.proofs.Chosen.{work-none, work-some}
use Rattle.up_core.proofs.state.State.work_task.Goals as goal

pub returns-in-Some : goal.returns-in-Some
returns-in-Some c sys limits history m mirror =
    work-some sys limits history m c.args.self.now mirror c.in-Some.k
    c.in-Some.ensures

pub returns-in-None : goal.returns-in-None
returns-in-None c sys limits history m mirror =
    work-none sys limits history m c.args.self.now mirror
    c.in-None.ensures
