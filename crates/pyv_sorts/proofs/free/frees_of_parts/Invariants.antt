use Rattle.std.proofs.Common.{◌≡◌, ◌++◌, drop}
use Rattle.pyv_meaning.specs.View.{views}
use Rattle.pyv_sorts.specs.Closures.{each_frees, part_names}
use Rattle.pyv_sorts.proofs.free.frees_of_parts.Given as goal

abbrev pub invariant-each : goal.invariant-each
invariant-each l = record {
  frees : part_names l.found.items ++ each_frees l.known.names l.scope (views l.known.bytes (drop l.part-index l.parts)) ≡ each_frees l.known.names l.fn.scope (views l.known.bytes l.parts);
  scope : l.scope ≡ l.fn.scope;
}
