use Rattle.std.proofs.Common.{◌≡◌, ◌<◌, true, length, get_or, ◌∙◌, length-set, arith}
use Rattle.std.proofs.lemmas.List.{get_or_default}
use Rattle.pyv_strat.specs.declared.edges.Edge.{Edge}
use Rattle.pyv_strat.proofs.LayerLemmas.{leads-marked, leads-unmarked}
use Rattle.pyv_strat.proofs.walks.layer_before.Goals as goal
use Rattle.pyv_strat.proofs.walks.layer_before.Goals.{then-layer-e, else-layer-e}

pub each-preserved : goal.each-preserved
each-preserved c =
    let edges = c.args.edges.now in
    let before = c.each.before.items in
    let e : Edge = get_or edges c.each.e-index (record { from = 0; to = 0 }) in
    let is : e ≡ get_or edges c.each.e-index e = get_or_default edges c.each.e-index (record { from = 0; to = 0 }) e c.each-test.true in
    let fits : e.from < length before = omega (arith, (c.requires c.each.e-index (record { from = 0; to = 0 }) c.each-test.true).0, c.each.invariant.long) in
    elim c.if-layer-e.branch [
      | then-layer-e w ↦ rw w.before-is record {
        long = length-set before e.from true ∙ c.each.invariant.long;
        marks = leads-marked edges c.args.layer.now before c.each.e-index e c.each-test.true is w.if-layer-e.true fits c.each.invariant.marks;
      }
      | else-layer-e w ↦ rw w.before-is record {
        long = c.each.invariant.long;
        marks = leads-unmarked edges c.args.layer.now before c.each.e-index e c.each-test.true is w.if-layer-e.false c.each.invariant.marks;
      }
    ]
