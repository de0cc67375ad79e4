use Rattle.std.proofs.Common.{sym}
use Rattle.up_core.proofs.lapsing.hits_at.Goals as goal

pub meets-requires-clause-meet : goal.meets-requires-clause-meet
meets-requires-clause-meet c = c.requires.meet c.in-Some.world.now (sym c.in-Some.ensures)
