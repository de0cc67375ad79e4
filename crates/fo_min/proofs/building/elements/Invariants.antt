use Rattle.std.proofs.Common.{◌≡◌, ◌≤◌, ◌++◌, drop, length}
use Rattle.fo_core.specs.Trials.{elements as elements_of}
use Rattle.fo_min.proofs.building.elements.Given as goal

-- those before this one are named
abbrev pub invariant-each : goal.invariant-each
invariant-each l = record {
  named : l.terms ++ elements_of l.sizes (drop l.i l.sorts) (drop l.i l.xs) ≡ elements_of l.sizes l.sorts l.xs;
  within : l.i ≤ length l.xs;
}
