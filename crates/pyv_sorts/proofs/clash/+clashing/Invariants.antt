use Rattle.std.proofs.Common.{◌≡◌, drop}
use Rattle.pyv_meaning.specs.Clashes.{each_clash, argument_clash}
use Rattle.pyv_meaning.specs.Uses.{places}
use Rattle.pyv_meaning.specs.View.{views}
use Rattle.pyv_sorts.specs.Inferring.{sort_in}
use Rattle.pyv_sorts.proofs.clash.+clashing.Given as goal

abbrev pub invariant-clash_of_each-each : goal.invariant-clash_of_each-each
invariant-clash_of_each-each l = record {
  clash : each_clash l.known.names l.known.sig (sort_in l.sorts) (views l.known.bytes (drop l.tree-index l.trees)) l.want l.scope ≡ each_clash l.known.names l.known.sig (sort_in l.sorts) (views l.known.bytes l.trees) l.want l.fn.scope;
  scope : l.scope ≡ l.fn.scope;
}

abbrev pub invariant-clash_of_arguments-each : goal.invariant-clash_of_arguments-each
invariant-clash_of_arguments-each l = record {
  clash : argument_clash l.known.names l.known.sig (sort_in l.sorts) (views l.known.bytes (drop l.k l.args)) (drop l.k l.asked) l.scope ≡ argument_clash l.known.names l.known.sig (sort_in l.sorts) (views l.known.bytes l.args) l.asked l.fn.scope;
  scope : l.scope ≡ l.fn.scope;
}
