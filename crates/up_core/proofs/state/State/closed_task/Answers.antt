use Rattle.up_core.proofs.Chosen.{closed-none, closed-some}
use Rattle.up_core.proofs.state.State.closed_task.Goals as goal

pub returns-in-Some : goal.returns-in-Some
returns-in-Some c sys limits history m mirror = closed-some sys limits history m c.args.self.now mirror c.in-Some.level c.in-Some.ensures

pub returns-in-None : goal.returns-in-None
returns-in-None c sys limits history m mirror = closed-none sys limits history m c.args.self.now mirror c.in-None.ensures
