use Rattle.std.proofs.Common.{◌≡◌, ◌++◌, drop, map, false}
use Rattle.pyv_meaning.specs.Builds.{compared}
use Rattle.pyv_sorts.proofs.formula.differ_from_each.Given as goal

abbrev pub invariant-each : goal.invariant-each
invariant-each l = l.out ++ map (λ u. compared false l.term u) (drop l.other-index l.others) ≡ l.fn.out ++ map (λ u. compared false l.term u) l.others
