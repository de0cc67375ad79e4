use Rattle.std.proofs.Common.{◌≡◌, ◌++◌, drop}
use Rattle.pyv_meaning.specs.Closing.{each_free}
use Rattle.pyv_meaning.specs.View.{views}
use Rattle.pyv_sorts.specs.Placing.{names_in}
use Rattle.pyv_sorts.proofs.free.+freeing.Given as goal

abbrev pub invariant-frees_of_each-each : goal.invariant-frees_of_each-each
invariant-frees_of_each-each l = record {
  frees : names_in l.out.items ++ each_free l.known.names (views l.known.bytes (drop l.tree-index l.trees)) l.scope ≡ names_in l.fn.out.items ++ each_free l.known.names (views l.known.bytes l.trees) l.fn.scope;
  scope : l.scope ≡ l.fn.scope;
}
