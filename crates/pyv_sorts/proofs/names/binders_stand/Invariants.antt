use Rattle.std.proofs.Common.{◌≡◌, ◌++◌, drop, length}
use Rattle.pyv_meaning.specs.NameFaults.{binder_faults}
use Rattle.pyv_meaning.specs.Tree.{bound_names}
use Rattle.pyv_meaning.specs.View.{binders_of}
use Rattle.pyv_sorts.proofs.names.binders_stand.Given as goal

abbrev pub invariant-each : goal.invariant-each
invariant-each l = record {
  faults : binder_faults l.known.names (binders_of l.known.bytes (drop l.bound-index l.bounds)) (length l.scope) ≡ binder_faults l.known.names (binders_of l.known.bytes l.bounds) (length l.fn.scope);
  scope : l.scope ++ bound_names (binders_of l.known.bytes (drop l.bound-index l.bounds)) ≡ l.fn.scope ++ bound_names (binders_of l.known.bytes l.bounds);
}
