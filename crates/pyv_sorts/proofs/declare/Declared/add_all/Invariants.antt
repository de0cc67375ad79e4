use Rattle.std.proofs.Common.{◌≡◌, drop, take, []}
use Rattle.pyv_meaning.specs.Declaring.{declared_fault}
use Rattle.pyv_meaning.specs.Items.{items_of}
use Rattle.pyv_sorts.specs.Noting.{IsNoted}
use Rattle.pyv_sorts.proofs.declare.Declared.add_all.Given as goal

abbrev pub invariant-each : goal.invariant-each
invariant-each l = record {
  noted : IsNoted l.sorts (items_of l.bytes (take l.decl-index l.decls)) l.self;
  told : declared_fault (items_of l.bytes l.decls) (items_of l.bytes (take l.decl-index l.decls)) (items_of l.bytes (drop l.decl-index l.decls)) ≡ declared_fault (items_of l.bytes l.decls) [] (items_of l.bytes l.decls);
}
