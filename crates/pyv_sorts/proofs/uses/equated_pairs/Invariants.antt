use Rattle.std.proofs.Common.{◌≡◌, ◌++◌, drop}
use Rattle.pyv_meaning.specs.Uses.{all_equated, sides}
use Rattle.pyv_meaning.specs.View.{views}
use Rattle.pyv_sorts.proofs.uses.equated_pairs.Given as goal

abbrev pub invariant-each : goal.invariant-each
invariant-each l =
    l.out.items ++ all_equated (sides l.known.names l.known.sig (views l.known.bytes (drop l.at l.terms)) l.scope) ≡ l.fn.out.items ++ all_equated (sides l.known.names l.known.sig (views l.known.bytes l.terms) l.scope)
