use Rattle.std.proofs.Common.{◌≡◌, ◌≤◌, ◌-◌}
use Rattle.up_block.specs.Passing.{IsSoFar}
use Rattle.up_block.proofs.passing.Pass.over.Given as goal

-- the literals so far were tried
abbrev pub invariant-each : goal.invariant-each
invariant-each g l = record {
  limit : g.F.Finder.limit l.f ≡ g.F.Finder.limit l.fn.f;
  few : l.kept ≤ l._tried;
  so_far : IsSoFar (g.F.Finder.limit l.fn.f) l.fn.self l.fn.cube l.self l.rest l.kept (l.count - l._tried);
}
