use Rattle.std.proofs.Common.{◌≡◌}
use Rattle.std.specs.List.{All}
use Rattle.up_claims.specs.VerifyQueries.{cases_at}
use Rattle.up_verify.specs.Verifying.{Passes}
use Rattle.up_verify.proofs.verifying.first_halt_at.Given as goal

-- the properties before this one pass
abbrev pub invariant-each : goal.invariant-each
invariant-each g l = record {
  passed : All (Passes l.sys (g.F.Finder.limit l.fn.f)) (cases_at l.step l.property);
  limit : g.F.Finder.limit l.f ≡ g.F.Finder.limit l.fn.f;
}
