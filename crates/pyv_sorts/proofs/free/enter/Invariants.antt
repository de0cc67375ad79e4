use Rattle.std.proofs.Common.{◌≡◌, ◌++◌, drop}
use Rattle.pyv_meaning.specs.Tree.{bound_names}
use Rattle.pyv_meaning.specs.View.{binders_of}
use Rattle.pyv_sorts.proofs.free.enter.Given as goal

abbrev pub invariant-each : goal.invariant-each
invariant-each l = l.scope ++ bound_names (binders_of l.known.bytes (drop l.bound-index l.bounds)) ≡ l.fn.scope ++ bound_names (binders_of l.known.bytes l.bounds)
