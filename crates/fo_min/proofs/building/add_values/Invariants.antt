use Rattle.std.proofs.Common.{◌≡◌, ◌++◌, drop}
use Rattle.fo_core.specs.Trials.{have_values as have_values_of}
use Rattle.fo_min.proofs.building.add_values.Given as goal

-- the values before this one are told
abbrev pub invariant-each : goal.invariant-each
invariant-each l = l.parts ++ have_values_of l.sizes l.sig (drop l.i l.cells) (drop l.i l.values) ≡ l.fn.parts ++ have_values_of l.sizes l.sig l.cells l.values
