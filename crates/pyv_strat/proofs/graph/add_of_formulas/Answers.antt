use Rattle.std.proofs.Common.{◌≡◌, ◌∙◌}
use Rattle.fo_core.specs.SortGraph.{FormulaEdge}
use Rattle.pyv_strat.proofs.EdgeLemmas.{adds-more, adds-all, adds-as}
use Rattle.pyv_strat.proofs.FormulaLemmas.{under-none}
use Rattle.pyv_strat.proofs.graph.add_of_formulas.Goals as goal

pub each-preserved : goal.each-preserved
each-preserved c =
    let more = rw c.each.invariant.none at c.in_ok-add_of_formula.ensures.edges in
    record {
      none = c.in_ok-add_of_formula.ensures.same ∙ c.each.invariant.none;
      before = adds-more (λ f a b. FormulaEdge a b f c.args.sign) c.args.fs.now _ _ _ c.each.f-index c.f-item.result c.each-test.true c.f-item.is c.each.invariant.before (adds-as _ _ _ _ (λ a b. under-none a b c.args.sign c.f-item.result) more);
    }

pub returns : goal.returns
returns c = adds-all (λ f a b. FormulaEdge a b f c.args.sign) c.args.fs.now _ _ c.each.f-index c.each-test.false c.each.invariant.before
