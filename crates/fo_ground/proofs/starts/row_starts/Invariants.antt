use Rattle.std.proofs.Common.{◌≡◌, map}
use Rattle.std.specs.List.{range_with_len}
use Rattle.fo_ground.specs.Numbers.{row_start}
use Rattle.fo_ground.proofs.starts.row_starts.Given as goal

-- the rows before this one have their beginnings
abbrev pub invariant-each : goal.invariant-each
invariant-each l = record {
  starts : l.starts.items ≡ map (row_start l.sig l.copies l.u) (range_with_len 0 l.p);
  end : l.end ≡ row_start l.sig l.copies l.u l.p;
}
