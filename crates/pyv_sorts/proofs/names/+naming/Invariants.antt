use Rattle.std.proofs.Common.{◌≡◌, drop}
use Rattle.pyv_meaning.specs.NameFaults.{faults, distinct_faults}
use Rattle.pyv_meaning.specs.View.{views}
use Rattle.pyv_sorts.proofs.names.+naming.Given as goal

abbrev pub invariant-names_of_each-each : goal.invariant-names_of_each-each
invariant-names_of_each-each l = record {
  faults : faults l.known.names l.known.sig (views l.known.bytes (drop l.tree-index l.trees)) l.stand l.scope ≡ faults l.known.names l.known.sig (views l.known.bytes l.trees) l.stand l.fn.scope;
  scope : l.scope ≡ l.fn.scope;
}

abbrev pub invariant-names_of_terms-each : goal.invariant-names_of_terms-each
invariant-names_of_terms-each l = record {
  faults : distinct_faults l.known.names l.known.sig (views l.known.bytes (drop l.before l.terms)) l.stand l.before l.scope ≡ distinct_faults l.known.names l.known.sig (views l.known.bytes l.terms) l.stand 0 l.fn.scope;
  scope : l.scope ≡ l.fn.scope;
}
