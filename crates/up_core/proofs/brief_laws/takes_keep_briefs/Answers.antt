use Rattle.up_core.proofs.Taken.{takes-keep}
use Rattle.up_core.proofs.brief_laws.takes_keep_briefs.Goals as goal

pub returns : goal.returns
returns c = takes-keep
