use Rattle.std.proofs.Common.{◌≡◌, map, take}
use Rattle.std.specs.List.{filter}
use Rattle.fo_core.specs.Tables.{is_like}
use Rattle.fo_min.specs.Cut.{value_count}
use Rattle.fo_min.proofs.world.counts.Given as goal

-- the symbols before this one are counted
abbrev pub invariant-each : goal.invariant-each
invariant-each l = l.counts ≡ map (value_count l.sizes) (filter (is_like l.mutable) (take l.symbol-index l.symbols))
