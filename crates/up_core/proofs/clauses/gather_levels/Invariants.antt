use Rattle.std.proofs.Common.{◌≡◌, length}
use Rattle.up_core.proofs.Gathered.{AreMarked}
use Rattle.up_core.proofs.clauses.gather_levels.Given as goal

-- the levels of the live clauses before this one are marked
abbrev pub invariant-each : goal.invariant-each
invariant-each l = record {
  same : length l.levels ≡ length l.fn.levels;
  marked : AreMarked l.entries l.at l.levels;
}
