use Rattle.std.proofs.Common.{◌≡◌, [], true}
use Rattle.fo_core.specs.declared.system.Step.{Step}
use Rattle.fo_core.specs.SortGraph.{FormulaEdge}
use Rattle.pyv_strat.specs.Edges.{Adds}
use Rattle.pyv_strat.proofs.EdgeLemmas.{Seen}
use Rattle.pyv_strat.proofs.graph.add_of_steps.Given as goal

-- there are the edges of the transitions before this one
abbrev pub invariant-each : goal.invariant-each
invariant-each l = record {
  none : l.above.items ≡ [];
  before : Adds l.fn.edges.items l.edges.items (Seen (λ (step : Step) a b. FormulaEdge a b step.body true) l.steps l.step-index);
}
