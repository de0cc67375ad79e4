use Rattle.std.proofs.Common.{◌≡◌, drop, []}
use Rattle.pyv_meaning.specs.Items.{items_of, sorts as sorts_of}
use Rattle.pyv_sorts.specs.Noting.{gathered}
use Rattle.pyv_sorts.proofs.declare.sort_names.Given as goal

abbrev pub invariant-each : goal.invariant-each
invariant-each l = gathered l.sorts (sorts_of (items_of l.bytes (drop l.decl-index l.decls))) ≡ gathered [] (sorts_of (items_of l.bytes l.decls))
