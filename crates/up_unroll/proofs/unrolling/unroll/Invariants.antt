use Rattle.std.proofs.Common.{◌≡◌, ℕ, ◌<◌}
use Rattle.std.specs.List.{All}
use Rattle.fo_core.specs.Finds.{IsLight}
use Rattle.up_claims.specs.RunQueries.{HasNoRunOf, run_queries}
use Rattle.up_unroll.proofs.unrolling.unroll.Given as goal

-- no violating run has fewer steps than this many, and what was asked to find this is light
abbrev pub invariant-each : goal.invariant-each
invariant-each g l = record {
  limit : g.F.Finder.limit l.f ≡ g.F.Finder.limit l.fn.f;
  shorter : (j : ℕ) → j < l.k → HasNoRunOf l.sys j;
  light : All (IsLight l.sys.sig (g.F.Finder.limit l.fn.f)) (run_queries l.sys l.k);
}
