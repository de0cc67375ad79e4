use Rattle.std.proofs.Common.{ℕ, ◌<◌, get_or}
use Rattle.up_claims.specs.declared.verdict.Kept.{Kept}
use Rattle.updr_top.specs.Narrow.{HasFewVariables}
use Rattle.updr_top.proofs.narrow.have_few_variables.Given as goal

-- it is so of those before this one
abbrev pub invariant-each : goal.invariant-each
invariant-each l = (k : ℕ) (d : Kept) → k < l.kept-index → HasFewVariables (get_or l.clauses k d)
