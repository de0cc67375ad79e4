use Rattle.fo_core.specs.SortGraph.{Leads}
use Rattle.pyv_strat.proofs.EdgeLemmas.{adds-more, adds-all}
use Rattle.pyv_strat.proofs.graph.add_of_functions.Goals as goal

pub each-preserved : goal.each-preserved
each-preserved c =
    adds-more (λ s a b. Leads a b s) c.args.symbols.now _ _ _ c.each.symbol-index c.symbol-item.result c.each-test.true c.symbol-item.is c.each.invariant c.in_ok-add_of_symbol.ensures

pub returns : goal.returns
returns c = adds-all (λ s a b. Leads a b s) c.args.symbols.now _ _ c.each.symbol-index c.each-test.false c.each.invariant
