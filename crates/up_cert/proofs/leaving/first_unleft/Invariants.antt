use Rattle.std.proofs.Common.{◌≡◌, None}
use Rattle.up_claims.specs.declared.verdict.Verdict.TheVariants.{Bounded}
use Rattle.up_cert.specs.Trying.{Looks}
use Rattle.up_cert.specs.VerdictSpots.{leaves_to}
use Rattle.up_cert.proofs.leaving.first_unleft.Given as goal

-- the frames before this one are left
abbrev pub invariant-each : goal.invariant-each
invariant-each l = record {
  same : l.env ≡ l.fn.env;
  passed : Looks l.sys (Bounded l.last l.clauses l.leaves) (leaves_to l.k) None;
}
