use Rattle.std.proofs.Common.{◌≡◌, ◌++◌, drop}
use Rattle.pyv_meaning.specs.Uses.{each_uses, argument_uses}
use Rattle.pyv_meaning.specs.View.{views}
use Rattle.pyv_sorts.proofs.uses.+telling.Given as goal

abbrev pub invariant-uses_of_each-each : goal.invariant-uses_of_each-each
invariant-uses_of_each-each l = record {
  uses : l.out.items ++ each_uses l.known.names l.known.sig (views l.known.bytes (drop l.tree-index l.trees)) l.scope ≡ l.fn.out.items ++ each_uses l.known.names l.known.sig (views l.known.bytes l.trees) l.fn.scope;
  scope : l.scope ≡ l.fn.scope;
}

abbrev pub invariant-uses_of_arguments-each : goal.invariant-uses_of_arguments-each
invariant-uses_of_arguments-each l = record {
  uses : l.out.items ++ argument_uses l.known.names l.known.sig (views l.known.bytes (drop l.k l.args)) (drop l.k l.sorts) l.scope ≡ l.fn.out.items ++ argument_uses l.known.names l.known.sig (views l.known.bytes l.args) l.sorts l.fn.scope;
  scope : l.scope ≡ l.fn.scope;
}
