use Rattle.std.proofs.Common.{◌≡◌, []}
use Rattle.fo_core.specs.SortGraph.{FormulaEdge}
use Rattle.pyv_strat.specs.Edges.{Adds}
use Rattle.pyv_strat.proofs.EdgeLemmas.{Seen}
use Rattle.pyv_strat.proofs.graph.add_of_formulas.Given as goal

-- there are the edges of the formulas before this one
abbrev pub invariant-each : goal.invariant-each
invariant-each l = record {
  none : l.above.items ≡ [];
  before : Adds l.fn.edges.items l.edges.items (Seen (λ f a b. FormulaEdge a b f l.sign) l.fs l.f-index);
}
