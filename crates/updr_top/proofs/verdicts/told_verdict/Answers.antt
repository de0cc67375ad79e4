use Rattle.updr_top.proofs.Finished.{never_open}
use Rattle.updr_top.proofs.verdicts.told_verdict.Goals as goal

pub unreachable-requires : goal.unreachable-requires
unreachable-requires c = never_open _ _ c.args.core.now c.requires (rw c.in-None.is at c.in_ok-verdict.ensures)
