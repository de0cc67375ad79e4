use Rattle.std.proofs.Common.{◌≡◌, map}
use Rattle.std.specs.List.{range_with_len}
use Rattle.fo_ground.specs.Numbers.{symbol_start, fact_start}
use Rattle.fo_ground.proofs.starts.symbol_starts.Given as goal

-- the symbols before this one have their beginnings
abbrev pub invariant-each : goal.invariant-each
invariant-each l = record {
  starts : l.starts.items ≡ map (symbol_start l.sig l.copies l.u) (range_with_len 0 l.k);
  end : l.end ≡ fact_start l.sig l.copies l.u l.k;
}
