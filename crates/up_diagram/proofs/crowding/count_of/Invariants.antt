use Rattle.std.proofs.Common.{◌≡◌, length}
use Rattle.std.specs.Prelude.{nat_eq, slice_index}
use Rattle.std.specs.List.{filter, range_with_len}
use Rattle.up_diagram.proofs.crowding.count_of.Given as goal

-- those before this one are counted
abbrev pub invariant-each : goal.invariant-each
invariant-each l = l.count ≡ length (filter (λ v. nat_eq (slice_index l.sorts v) l.sort) (range_with_len 0 l.v))
