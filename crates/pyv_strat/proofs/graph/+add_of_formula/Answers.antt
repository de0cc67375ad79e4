use Rattle.std.proofs.Common.{◌≡◌, ◌∙◌, sym, ap}
use Rattle.std.proofs.lemmas.Result.{on_ok_weaker}
use Rattle.fo_core.specs.declared.formula.Formula.TheVariants as F
use Rattle.pyv_strat.proofs.EdgeLemmas.{adds-more, adds-all, adds-as, adds-then}
use Rattle.pyv_strat.proofs.FormulaLemmas.{EdgeUnder, under-Not, under-And, under-Or, under-All-true, under-All-false, under-Ex-true, under-Ex-false}
use Rattle.pyv_strat.proofs.graph.+add_of_formula.Goals as goal

pub conjuncts-preserved : goal.conjuncts-preserved
conjuncts-preserved t c =
    let more = rw c.conjuncts.invariant.same at c.in_ok-add_of_formula-in-And.ensures.edges in
    record {
      same = c.in_ok-add_of_formula-in-And.ensures.same ∙ c.conjuncts.invariant.same;
      before = adds-more (EdgeUnder c.args.above.now.items c.args.sign) c.as_slice-g-items.result.now _ _ _ c.conjuncts.g-index c.g-item.result c.conjuncts-test.true c.g-item.is c.conjuncts.invariant.before more;
    }

pub disjuncts-preserved : goal.disjuncts-preserved
disjuncts-preserved t c =
    let more = rw c.disjuncts.invariant.same at c.in_ok-add_of_formula-in-Or.ensures.edges in
    record {
      same = c.in_ok-add_of_formula-in-Or.ensures.same ∙ c.disjuncts.invariant.same;
      before = adds-more (EdgeUnder c.args.above.now.items c.args.sign) c.as_slice-g-items-in-Or.result.now _ _ _ c.disjuncts.g-index c.g-item-in-disjuncts.result c.disjuncts-test.true c.g-item-in-disjuncts.is c.disjuncts.invariant.before more;
    }

pub returns-after-conjuncts-clause-edges : goal.returns-after-conjuncts-clause-edges
returns-after-conjuncts-clause-edges t c =
    let above = c.args.above.now.items in
    let is = c.in-And.is ∙ ap F.And (sym c.as_slice-g-items.ensures) in
    rw is (adds-as _ _ _ _ (λ a b. under-And above a b c.as_slice-g-items.result.now c.args.sign) (adds-all (EdgeUnder above c.args.sign) c.as_slice-g-items.result.now _ _ c.conjuncts.g-index c.conjuncts-test.false c.conjuncts.invariant.before))

pub returns-after-disjuncts-clause-edges : goal.returns-after-disjuncts-clause-edges
returns-after-disjuncts-clause-edges t c =
    let above = c.args.above.now.items in
    let is = c.in-Or.is ∙ ap F.Or (sym c.as_slice-g-items-in-Or.ensures) in
    rw is (adds-as _ _ _ _ (λ a b. under-Or above a b c.as_slice-g-items-in-Or.result.now c.args.sign) (adds-all (EdgeUnder above c.args.sign) c.as_slice-g-items-in-Or.result.now _ _ c.disjuncts.g-index c.disjuncts-test.false c.disjuncts.invariant.before))

pub returns-in-Not-clause-edges : goal.returns-in-Not-clause-edges
returns-in-Not-clause-edges t c =
    let above = c.args.above.now.items in
    let body = rw c.get.ensures at c.add_of_formula.ensures.edges in
    rw c.in-Not.is (on_ok_weaker c.add_of_formula.result (λ h. adds-as _ _ _ _ (λ a b. under-Not above a b c.args.sign c.in-Not.g) h) body)

pub returns-then-not-sign-clause-edges : goal.returns-then-not-sign-clause-edges
returns-then-not-sign-clause-edges t c =
    let above = c.args.above.now.items in
    let first = rw c.as_slice.ensures.value at c.in_ok-add_from_each-in-All.ensures in
    let body = rw c.get-then-not-sign.ensures at c.add_of_formula-then-not-sign.ensures.edges in
    rw c.in-All.is (on_ok_weaker c.add_of_formula-then-not-sign.result (λ h. adds-as _ _ _ _ (λ a b. under-All-false above a b c.in-All.s c.in-All.g c.args.sign c.if-not-sign.true) (adds-then _ _ _ _ _ first h)) body)

pub returns-then-sign-clause-edges : goal.returns-then-sign-clause-edges
returns-then-sign-clause-edges t c =
    let above = c.args.above.now.items in
    let first = rw c.as_slice-then-sign.ensures.value at c.in_ok-add_from_each-in-Ex.ensures in
    let body = rw c.get-then-sign.ensures at c.add_of_formula-then-sign.ensures.edges in
    rw c.in-Ex.is (on_ok_weaker c.add_of_formula-then-sign.result (λ h. adds-as _ _ _ _ (λ a b. under-Ex-true above a b c.in-Ex.s c.in-Ex.g c.args.sign c.if-sign.true) (adds-then _ _ _ _ _ first h)) body)

pub returns-in_ok-add_of_formula-in-All-clause-edges : goal.returns-in_ok-add_of_formula-in-All-clause-edges
returns-in_ok-add_of_formula-in-All-clause-edges t c =
    let above = c.args.above.now.items in
    let body = rw (c.in_ok-push-in-All.ensures.items, c.get-in-All.ensures) at c.in_ok-add_of_formula-in-All.ensures.edges in
    rw c.in-All.is (adds-as _ _ _ _ (λ a b. under-All-true above a b c.in-All.s c.in-All.g c.args.sign c.if-not-sign.false) body)

pub returns-in_ok-add_of_formula-in-Ex-clause-edges : goal.returns-in_ok-add_of_formula-in-Ex-clause-edges
returns-in_ok-add_of_formula-in-Ex-clause-edges t c =
    let above = c.args.above.now.items in
    let body = rw (c.in_ok-push-in-Ex.ensures.items, c.get-in-Ex.ensures) at c.in_ok-add_of_formula-in-Ex.ensures.edges in
    rw c.in-Ex.is (adds-as _ _ _ _ (λ a b. under-Ex-false above a b c.in-Ex.s c.in-Ex.g c.args.sign c.if-sign.false) body)
