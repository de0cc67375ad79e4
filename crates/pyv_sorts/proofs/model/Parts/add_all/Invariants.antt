use Rattle.std.proofs.Common.{◌≡◌, drop, take}
use Rattle.pyv_meaning.specs.Front.{Done}
use Rattle.pyv_meaning.specs.Items.{items_of}
use Rattle.pyv_sorts.specs.Elaborating.{HaveFew}
use Rattle.pyv_sorts.proofs.model.Parts.add_all.Given as goal

abbrev pub invariant-each : goal.invariant-each
invariant-each l = record {
  few : HaveFew (items_of l.known.bytes (drop l.decl-index l.decls));
  done : Done l.known.names l.known.sig (items_of l.known.bytes (take l.decl-index l.decls)) l.self.axioms l.self.inits l.self.steps l.self.safeties l.self.invariants;
}
