use Rattle.std.proofs.Common.{◌≡◌, ◌<◌, length, ◌∙◌, arith}
use Rattle.pyv_strat.proofs.LayerLemmas.{layer-added, layer-before, marked-at, unmarked-at, none-longer}
use Rattle.pyv_strat.proofs.StartLemmas.{none-fewer}
use Rattle.pyv_strat.proofs.cycle.fewest_between.Goals as goal

pub returns-then-index : goal.returns-then-index
returns-then-index c =
    let layer = c.in_ok-layer-2.layer.items in
    let marks = rw c.as_slice.ensures.value at c.in_ok-layer-2.ensures.marks in
    let within : c.args.sort < length layer = omega (arith, c.in_ok-layer-2.ensures.len, c.as_slice.ensures.len, c.lengths.invariant.long, c.requires.sort) in
    let next = layer-before c.args.edges.now (λ b. b ≡ c.args.sort) c.lengths.between c.lengths.layer.items layer c.lengths.invariant.marks marks in
    (c.lengths-test.true, (next c.args.sort).0 (marked-at layer c.args.sort c.index.result.now within c.index.ensures c.if-index.true), c.lengths.invariant.none)

pub lengths-preserved : goal.lengths-preserved
lengths-preserved c =
    let layer = c.in_ok-layer-2.layer.items in
    let marks = rw c.as_slice.ensures.value at c.in_ok-layer-2.ensures.marks in
    let within : c.args.sort < length layer = omega (arith, c.in_ok-layer-2.ensures.len, c.as_slice.ensures.len, c.lengths.invariant.long, c.requires.sort) in
    let next = layer-before c.args.edges.now (λ b. b ≡ c.args.sort) c.lengths.between c.lengths.layer.items layer c.lengths.invariant.marks marks in
    record {
      long = omega (arith, c.in_ok-layer-2.ensures.len, c.as_slice.ensures.len, c.lengths.invariant.long);
      marks = layer-added c.args.edges.now (λ b. b ≡ c.args.sort) c.lengths.between c.lengths.layer.items layer c.lengths.invariant.marks marks;
      none = none-longer c.args.edges.now c.lengths.between c.args.sort c.lengths.invariant.none (λ h. unmarked-at layer c.args.sort c.index.result.now within c.index.ensures c.if-index.false ((next c.args.sort).1 h));
    }

pub returns : goal.returns
returns c = none-fewer c.args.edges.now c.lengths.between c.args.limit c.lengths-test.false c.args.sort c.lengths.invariant.none
