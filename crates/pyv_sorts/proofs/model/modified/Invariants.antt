use Rattle.std.proofs.Common.{◌≡◌, ◌++◌, drop}
use Rattle.pyv_meaning.specs.Bodies.{modifies_fault, modified}
use Rattle.pyv_meaning.specs.View.{names_of}
use Rattle.pyv_sorts.proofs.model.modified.Given as goal

abbrev pub invariant-each : goal.invariant-each
invariant-each l = record {
  told : modifies_fault l.known.names l.known.sig (names_of l.known.bytes (drop l.name-index l.names)) ≡ modifies_fault l.known.names l.known.sig (names_of l.known.bytes l.names);
  made : l.symbols ++ modified l.known.names l.known.sig (names_of l.known.bytes (drop l.name-index l.names)) ≡ modified l.known.names l.known.sig (names_of l.known.bytes l.names);
}
