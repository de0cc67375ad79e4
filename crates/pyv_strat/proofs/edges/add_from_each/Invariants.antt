use Rattle.std.proofs.Common.{◌≡◌}
use Rattle.pyv_strat.specs.Edges.{Adds}
use Rattle.pyv_strat.proofs.EdgeLemmas.{Seen}
use Rattle.pyv_strat.proofs.edges.add_from_each.Given as goal

-- there are edges from the sorts before this one
abbrev pub invariant-each : goal.invariant-each
invariant-each l = Adds l.fn.edges.items l.edges.items (Seen (λ x a b. (x ≡ a) × (l.to ≡ b)) l.above l.from-index)
