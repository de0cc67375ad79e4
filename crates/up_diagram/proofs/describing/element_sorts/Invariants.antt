use Rattle.std.proofs.Common.{◌≡◌, replicate}
use Rattle.std.specs.Prelude.{slice_index}
use Rattle.std.specs.List.{flat_map, range_with_len}
use Rattle.up_diagram.proofs.describing.element_sorts.Given as goal

-- the elements of the sorts before this one have theirs
abbrev pub invariant-each : goal.invariant-each
invariant-each l = l.sorts ≡ flat_map (λ s. replicate (slice_index l.sizes s) s) (range_with_len 0 l.s)
