use Rattle.std.proofs.Common.{◌-◌}
use Rattle.up_free.proofs.crew.+fn-spread-join+arg2+fn-spread-join+arg3+spread.Given as goal

abbrev pub decreases-join+arg2 : goal.decreases-join+arg2
decreases-join+arg2 g l = l.half

abbrev pub decreases-join+arg3 : goal.decreases-join+arg3
decreases-join+arg3 g l = l.width - l.half

abbrev pub decreases-spread : goal.decreases-spread
decreases-spread g l = l.width
