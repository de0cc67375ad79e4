use Rattle.std.proofs.Common.{◌≡◌, ◌++◌, drop}
use Rattle.pyv_meaning.specs.Uses.{equated_with, sides}
use Rattle.pyv_meaning.specs.View.{views}
use Rattle.pyv_sorts.proofs.uses.equated_with_each.Given as goal

abbrev pub invariant-each : goal.invariant-each
invariant-each l =
    l.out.items ++ equated_with l.left (sides l.known.names l.known.sig (views l.known.bytes (drop l.term-index l.terms)) l.scope) ≡ l.fn.out.items ++ equated_with l.left (sides l.known.names l.known.sig (views l.known.bytes l.terms) l.scope)
