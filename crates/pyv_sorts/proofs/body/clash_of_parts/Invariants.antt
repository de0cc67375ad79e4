use Rattle.std.proofs.Common.{◌≡◌, ◌++◌, drop}
use Rattle.pyv_meaning.specs.View.{views}
use Rattle.pyv_sorts.specs.Closures.{part_names}
use Rattle.pyv_sorts.specs.Inferring.{sort_in}
use Rattle.pyv_sorts.specs.Parts.{clash_in}
use Rattle.pyv_sorts.proofs.body.clash_of_parts.Given as goal

abbrev pub invariant-each : goal.invariant-each
invariant-each l = record {
  told : clash_in l.known.names l.known.sig (sort_in l.sorts) l.scope (views l.known.bytes (drop l.k l.parts)) (part_names (drop l.k l.closures)) ≡ clash_in l.known.names l.known.sig (sort_in l.sorts) l.fn.scope (views l.known.bytes l.parts) (part_names l.closures);
  scope : l.scope ≡ l.fn.scope;
}
