use Rattle.std.proofs.Common.{◌≡◌, ◌++◌, drop}
use Rattle.pyv_sorts.specs.Placing.{names_in}
use Rattle.pyv_sorts.proofs.body.enter_each.Given as goal

abbrev pub invariant-each : goal.invariant-each
invariant-each l = l.scope ++ names_in (drop l.variable-index l.variables) ≡ l.fn.scope ++ names_in l.variables
