use Rattle.std.proofs.Common.{◌≡◌, ◌≤◌, ◌++◌, drop, length}
use Rattle.fo_least.proofs.Naming.{named as named_of}
use Rattle.fo_min.specs.Known.{element_of}
use Rattle.fo_min.proofs.naming.named.Given as goal

-- those before this one are named
abbrev pub invariant-each : goal.invariant-each
invariant-each l = record {
  named : l.ys ++ named_of (element_of l.names) (drop l.i l.sorts) (drop l.i l.xs) ≡ named_of (element_of l.names) l.sorts l.xs;
  within : l.i ≤ length l.xs;
}
