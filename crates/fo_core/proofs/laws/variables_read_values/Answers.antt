use Rattle.std.proofs.Common.{length, refl}
use Rattle.fo_core.proofs.Binders.{variables-values}
use Rattle.fo_core.proofs.laws.variables_read_values.Goals as goal

pub returns : goal.returns
returns c sig w d vs ys = variables-values sig w d vs ys (length ys) refl
