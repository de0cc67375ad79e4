use Rattle.std.proofs.Common.{◌≡◌, replicate, get_or}
use Rattle.std.specs.List.{flat_map, range_with_len}
use Rattle.fo_min.proofs.building.element_sorts.Given as goal

-- the sorts before this one are told
abbrev pub invariant-each : goal.invariant-each
invariant-each l = l.sorts ≡ flat_map (λ s. replicate (get_or l.sizes s 0) s) (range_with_len 0 l.s)
