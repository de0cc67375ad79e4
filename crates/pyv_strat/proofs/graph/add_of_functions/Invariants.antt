use Rattle.fo_core.specs.SortGraph.{Leads}
use Rattle.pyv_strat.specs.Edges.{Adds}
use Rattle.pyv_strat.proofs.EdgeLemmas.{Seen}
use Rattle.pyv_strat.proofs.graph.add_of_functions.Given as goal

-- there are the edges of the symbols before this one
abbrev pub invariant-each : goal.invariant-each
invariant-each l = Adds l.fn.edges.items l.edges.items (Seen (λ s a b. Leads a b s) l.symbols l.symbol-index)
