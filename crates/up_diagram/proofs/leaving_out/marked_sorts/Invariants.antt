use Rattle.std.proofs.Common.{◌≡◌, false, map, get_or}
use Rattle.std.specs.Prelude.{slice_index}
use Rattle.std.specs.List.{filter, range_with_len}
use Rattle.up_diagram.proofs.leaving_out.marked_sorts.Given as goal

-- the sorts of the marked variables before this one
abbrev pub invariant-each : goal.invariant-each
invariant-each l = l.kept ≡ map (slice_index l.sorts) (filter (λ v. get_or l.marks v false) (range_with_len 0 l.v))
