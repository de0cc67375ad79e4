use Rattle.std.proofs.Common.{◌≡◌, take}
use Rattle.up_claims.specs.Verdicts.{cubes_of}
use Rattle.up_cert.proofs.clauses.cubes_of.Given as goal

abbrev pub invariant-each : goal.invariant-each
invariant-each l = l.cubes ≡ cubes_of (take l.kept-index l.clauses)
