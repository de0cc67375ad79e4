use Rattle.std.proofs.Common.{sym}
use Rattle.up_core.proofs.briefs.diagram_at.Goals as goal

pub diagram-requires : goal.diagram-requires
diagram-requires c = c.requires c.in-Some.world.now (sym c.in-Some.ensures)
