use Rattle.up_core.proofs.EventCores.{spare-less}
use Rattle.up_core.proofs.state.State.precede_by.Goals as goal

pub returns-in-Initial-clause-room : goal.returns-in-Initial-clause-room
returns-in-Initial-clause-room c n h = c.root.ensures.room n (spare-less n c.args.self.now h)
