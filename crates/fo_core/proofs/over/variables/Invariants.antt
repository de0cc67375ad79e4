use Rattle.std.proofs.Common.{◌≡◌}
use Rattle.fo_core.specs.Over.{variables as variables_of}
use Rattle.fo_core.proofs.over.variables.Given as goal

abbrev pub invariant-each : goal.invariant-each
invariant-each l = l.terms ≡ variables_of l.from l.i
