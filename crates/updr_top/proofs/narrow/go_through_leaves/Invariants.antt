use Rattle.std.proofs.Common.{ℕ, ◌<◌, get_or}
use Rattle.up_claims.specs.declared.verdict.Leave.{Leave}
use Rattle.updr_top.specs.Narrow.{IsNarrowLeave}
use Rattle.updr_top.proofs.narrow.go_through_leaves.Given as goal

-- it is so of those before this one
abbrev pub invariant-each : goal.invariant-each
invariant-each l = (k : ℕ) (d : Leave) → k < l.leave-index → IsNarrowLeave (get_or l.leaves k d)
