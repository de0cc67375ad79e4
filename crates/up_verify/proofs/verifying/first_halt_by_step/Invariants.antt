use Rattle.std.proofs.Common.{◌≡◌, length}
use Rattle.std.specs.List.{All}
use Rattle.up_claims.specs.Claims.{properties}
use Rattle.up_claims.specs.VerifyQueries.{step_cases}
use Rattle.up_verify.specs.Verifying.{Passes}
use Rattle.up_verify.proofs.verifying.first_halt_by_step.Given as goal

-- the transitions before this one keep all properties
abbrev pub invariant-each : goal.invariant-each
invariant-each g l = record {
  passed : All (Passes l.sys (g.F.Finder.limit l.fn.f)) (step_cases (length (properties l.sys)) l.step);
  limit : g.F.Finder.limit l.f ≡ g.F.Finder.limit l.fn.f;
}
