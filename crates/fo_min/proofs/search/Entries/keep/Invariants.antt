use Rattle.std.proofs.Common.{◌≡◌}
use Rattle.fo_min.proofs.search.Entries.keep.Given as goal

-- the world stays
abbrev pub invariant-each : goal.invariant-each
invariant-each l = l.world ≡ l.fn.world
