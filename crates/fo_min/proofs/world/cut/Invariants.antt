use Rattle.std.proofs.Common.{◌≡◌, ◌++◌, drop}
use Rattle.fo_min.specs.Cut.{cut as cut_of}
use Rattle.fo_min.proofs.world.cut.Given as goal

-- the tables before this one are cut off
abbrev pub invariant-each : goal.invariant-each
invariant-each l = l.tables ++ cut_of (drop l.n-index l.counts) l.rest ≡ cut_of l.counts l.values
