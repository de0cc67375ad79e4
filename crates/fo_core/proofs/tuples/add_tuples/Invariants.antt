use Rattle.std.proofs.Common.{◌≡◌, ◌++◌, ◌∷◌, map, take}
use Rattle.fo_core.proofs.tuples.add_tuples.Given as goal

abbrev pub invariant-each : goal.invariant-each
invariant-each l = l.tuples ≡ l.fn.tuples ++ map (λ xs. l.x ∷ xs) (take l.xs-index l.others)
