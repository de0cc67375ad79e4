use Rattle.std.proofs.Common.{ℕ, ◌<◌}
use Rattle.pyv_strat.specs.Edges.{Among}
use Rattle.pyv_strat.specs.Walks.{Marks}
use Rattle.pyv_strat.proofs.cycle.least_next.Given as goal

-- no lesser sort is marked and led to
abbrev pub invariant-each : goal.invariant-each
invariant-each l = (b : ℕ) → b < l.to → Among l.edges l.from b → ¬ Marks l.layer b
