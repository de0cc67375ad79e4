use Rattle.std.proofs.Common.{◌≡◌, drop}
use Rattle.pyv_meaning.specs.Bodies.{params_fault}
use Rattle.pyv_meaning.specs.View.{binders_of}
use Rattle.pyv_sorts.proofs.model.parameters_stand.Given as goal

abbrev pub invariant-each : goal.invariant-each
invariant-each l = params_fault l.known.names l.known.sig (binders_of l.known.bytes (drop l.param-index l.params)) ≡ params_fault l.known.names l.known.sig (binders_of l.known.bytes l.params)
