use Rattle.std.proofs.Common.{◌≡◌, None}
use Rattle.up_claims.specs.declared.verdict.Verdict.TheVariants.{NoUniversal}
use Rattle.up_cert.specs.Trying.{Looks}
use Rattle.up_cert.specs.VerdictSpots.{links_below}
use Rattle.up_cert.proofs.chain.first_wrong_link.Given as goal

-- the links before this one pass
abbrev pub invariant-each : goal.invariant-each
invariant-each l = record {
  same : l.env ≡ l.fn.env;
  passed : Looks l.sys (NoUniversal l.links) (links_below l.k) None;
}
