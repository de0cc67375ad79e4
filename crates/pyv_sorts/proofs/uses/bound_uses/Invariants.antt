use Rattle.std.proofs.Common.{◌≡◌, ◌++◌, drop}
use Rattle.pyv_meaning.specs.Uses.{binder_uses}
use Rattle.pyv_meaning.specs.View.{binders_of}
use Rattle.pyv_sorts.proofs.uses.bound_uses.Given as goal

abbrev pub invariant-each : goal.invariant-each
invariant-each l = l.out.items ++ binder_uses l.known.names (binders_of l.known.bytes (drop l.bound-index l.bounds)) ≡ l.fn.out.items ++ binder_uses l.known.names (binders_of l.known.bytes l.bounds)
