use Rattle.std.proofs.Common.{◌≡◌}
use Rattle.up_cert.proofs.TriedLemmas.{IsSoFar}
use Rattle.up_cert.proofs.asking.try_runs.Given as goal

-- no violating run has fewer steps than this many
abbrev pub invariant-each : goal.invariant-each
invariant-each g l = record {
  limit : g.F.Finder.limit l.f ≡ g.F.Finder.limit l.fn.f;
  so_far : IsSoFar l.sys (g.F.Finder.limit l.fn.f) l.k;
}
