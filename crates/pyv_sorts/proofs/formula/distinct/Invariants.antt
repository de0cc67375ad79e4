use Rattle.std.proofs.Common.{◌≡◌, ◌++◌, drop}
use Rattle.pyv_meaning.specs.Builds.{differ}
use Rattle.pyv_sorts.proofs.formula.distinct.Given as goal

abbrev pub invariant-each : goal.invariant-each
invariant-each l = l.pairs ++ differ (drop l.at l.terms) ≡ differ l.terms
