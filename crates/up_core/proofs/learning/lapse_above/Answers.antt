use Rattle.std.proofs.Common.{sym}
use Rattle.up_core.proofs.learning.lapse_above.Goals as goal

pub lapse-requires-clause-meet : goal.lapse-requires-clause-meet
lapse-requires-clause-meet c = c.requires.meet c.in-Some.cube.now (sym c.in-Some.ensures)
