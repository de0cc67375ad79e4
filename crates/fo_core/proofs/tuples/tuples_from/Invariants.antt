use Rattle.std.proofs.Common.{◌≡◌, ◌∷◌, map}
use Rattle.std.specs.List.{flat_map, range_with_len}
use Rattle.fo_core.proofs.tuples.tuples_from.Given as goal

abbrev pub invariant-each : goal.invariant-each
invariant-each l = l.tuples ≡ flat_map (λ x. map (λ xs. x ∷ xs) l.others) (range_with_len 0 l.x)
