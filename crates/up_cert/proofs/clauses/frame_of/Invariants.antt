use Rattle.std.proofs.Common.{◌≡◌, take}
use Rattle.up_claims.specs.Verdicts.{cubes_from}
use Rattle.up_cert.proofs.clauses.frame_of.Given as goal

abbrev pub invariant-each : goal.invariant-each
invariant-each l = l.cubes ≡ cubes_from (take l.kept-index l.clauses) l.level
