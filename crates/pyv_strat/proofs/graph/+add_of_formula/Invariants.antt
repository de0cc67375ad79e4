use Rattle.std.proofs.Common.{◌≡◌, ◌⊎◌}
use Rattle.std.specs.List.{Contains}
use Rattle.fo_core.specs.SortGraph.{HasExistential, FormulaEdge}
use Rattle.pyv_strat.specs.Edges.{Adds}
use Rattle.pyv_strat.proofs.EdgeLemmas.{Seen}
use Rattle.pyv_strat.proofs.FormulaLemmas.{EdgeUnder}
use Rattle.pyv_strat.proofs.graph.+add_of_formula.Given as goal

abbrev pub decreases-add_of_formula : goal.decreases-add_of_formula
decreases-add_of_formula l = goal.size-add_of_formula l

-- there are the edges of the members before this one
abbrev pub invariant-conjuncts : goal.invariant-conjuncts
invariant-conjuncts l = record {
  same : l.above.items ≡ l.fn.above.items;
  before : Adds l.fn.edges.items l.edges.items (Seen (EdgeUnder l.fn.above.items l.sign) l.g-items l.g-index);
}

abbrev pub invariant-disjuncts : goal.invariant-disjuncts
invariant-disjuncts l = record {
  same : l.above.items ≡ l.fn.above.items;
  before : Adds l.fn.edges.items l.edges.items (Seen (EdgeUnder l.fn.above.items l.sign) l.g-items l.g-index);
}
