use Rattle.std.proofs.Common.{◌≡◌, ◌∙◌, true}
use Rattle.fo_core.specs.declared.system.Step.{Step}
use Rattle.fo_core.specs.SortGraph.{FormulaEdge}
use Rattle.pyv_strat.proofs.EdgeLemmas.{adds-more, adds-all, adds-as}
use Rattle.pyv_strat.proofs.FormulaLemmas.{under-none}
use Rattle.pyv_strat.proofs.graph.add_of_steps.Goals as goal

pub each-preserved : goal.each-preserved
each-preserved c =
    let more = rw c.each.invariant.none at c.in_ok-add_of_formula.ensures.edges in
    record {
      none = c.in_ok-add_of_formula.ensures.same ∙ c.each.invariant.none;
      before = adds-more (λ (step : Step) a b. FormulaEdge a b step.body true) c.args.steps.now _ _ _ c.each.step-index c.step-item.result c.each-test.true c.step-item.is c.each.invariant.before (adds-as _ _ _ _ (λ a b. under-none a b true c.step-item.result.body) more);
    }

pub returns : goal.returns
returns c = adds-all (λ (step : Step) a b. FormulaEdge a b step.body true) c.args.steps.now _ _ c.each.step-index c.each-test.false c.each.invariant.before
