use Rattle.std.proofs.Common.{◌≡◌, map}
use Rattle.std.specs.List.{range_with_len}
use Rattle.up_diagram.specs.Marks.{rank_among}
use Rattle.up_diagram.proofs.leaving_out.places_of.Given as goal

-- the variables before this one have places
abbrev pub invariant-each : goal.invariant-each
invariant-each l = record {
  places : l.places.items ≡ map (rank_among l.marks) (range_with_len 0 l.marked-index);
  next : l.next ≡ rank_among l.marks l.marked-index;
}
