use Rattle.std.proofs.Common.{◌∙◌, sym, ap}
use Rattle.fo_core.specs.declared.formula.Formula.TheVariants as F
use Rattle.fo_core.specs.Tables.{no_symbol}
use Rattle.fo_core.proofs.Answered.{false_from, answered}
use Rattle.fo_core.proofs.SortedLemmas.{Not-either, And-false, And-true, Or-false, Or-true, All-unknown, Ex-unknown, All-either, Ex-either}
use Rattle.fo_core.proofs.sorted.+is_formula.Goals as goal

pub returns-then-not-branch-clause-sorted : goal.returns-then-not-branch-clause-sorted
returns-then-not-branch-clause-sorted t c =
    let is = c.in-And.is ∙ ap F.And (sym c.as_slice-g-items.ensures) in
    let fails = rw c.conjuncts.invariant.same at (false_from c.in_ok-is_formula-in-And.field-0 c.if-not-branch.true c.in_ok-is_formula-in-And.ensures.sorted) in
    rw is (And-false c.args.sig.now c.args.copies c.args.scope.now.items c.as_slice-g-items.result.now c.conjuncts.g-index c.g-item.result c.conjuncts-test.true c.g-item.is fails)

pub returns-after-conjuncts-clause-sorted : goal.returns-after-conjuncts-clause-sorted
returns-after-conjuncts-clause-sorted t c =
    let is = c.in-And.is ∙ ap F.And (sym c.as_slice-g-items.ensures) in
    rw is (And-true c.args.sig.now c.args.copies c.args.scope.now.items c.as_slice-g-items.result.now c.conjuncts.g-index c.conjuncts-test.false c.conjuncts.invariant.before)

pub returns-then-not-branch-2-clause-sorted : goal.returns-then-not-branch-2-clause-sorted
returns-then-not-branch-2-clause-sorted t c =
    let is = c.in-Or.is ∙ ap F.Or (sym c.as_slice-g-items-in-Or.ensures) in
    let fails = rw c.disjuncts.invariant.same at (false_from c.in_ok-is_formula-in-Or.field-0 c.if-not-branch-2.true c.in_ok-is_formula-in-Or.ensures.sorted) in
    rw is (Or-false c.args.sig.now c.args.copies c.args.scope.now.items c.as_slice-g-items-in-Or.result.now c.disjuncts.g-index c.g-item-in-disjuncts.result c.disjuncts-test.true c.g-item-in-disjuncts.is fails)

pub returns-after-disjuncts-clause-sorted : goal.returns-after-disjuncts-clause-sorted
returns-after-disjuncts-clause-sorted t c =
    let is = c.in-Or.is ∙ ap F.Or (sym c.as_slice-g-items-in-Or.ensures) in
    rw is (Or-true c.args.sig.now c.args.copies c.args.scope.now.items c.as_slice-g-items-in-Or.result.now c.disjuncts.g-index c.disjuncts-test.false c.disjuncts.invariant.before)

pub returns-then-s-sig-clause-sorted : goal.returns-then-s-sig-clause-sorted
returns-then-s-sig-clause-sorted t c = rw c.in-All.is (All-unknown c.args.sig.now c.args.copies c.args.scope.now.items c.in-All.s c.in-All.g c.if-s-sig.true)

pub returns-in_ok-inside-in-All-clause-sorted : goal.returns-in_ok-inside-in-All-clause-sorted
returns-in_ok-inside-in-All-clause-sorted t c =
    let body = rw (c.in_ok-push-in-All.ensures.items, c.get-in-All.ensures) at c.in_ok-inside-in-All.ensures.sorted in
    rw c.in-All.is (All-either c.args.sig.now c.args.copies c.args.scope.now.items c.in-All.s c.in-All.g c.in_ok-inside-in-All.inside c.if-s-sig.false body)

pub returns-then-s-sig-2-clause-sorted : goal.returns-then-s-sig-2-clause-sorted
returns-then-s-sig-2-clause-sorted t c = rw c.in-Ex.is (Ex-unknown c.args.sig.now c.args.copies c.args.scope.now.items c.in-Ex.s c.in-Ex.g c.if-s-sig-2.true)

pub returns-in_ok-inside-in-Ex-clause-sorted : goal.returns-in_ok-inside-in-Ex-clause-sorted
returns-in_ok-inside-in-Ex-clause-sorted t c =
    let body = rw (c.in_ok-push-in-Ex.ensures.items, c.get-in-Ex.ensures) at c.in_ok-inside-in-Ex.ensures.sorted in
    rw c.in-Ex.is (Ex-either c.args.sig.now c.args.copies c.args.scope.now.items c.in-Ex.s c.in-Ex.g c.in_ok-inside-in-Ex.inside c.if-s-sig-2.false body)

pub returns-else-not-is_symbol-clause-sorted : goal.returns-else-not-is_symbol-clause-sorted
returns-else-not-is_symbol-clause-sorted t c =
    let all = rw (c.as_slice.ensures.value, c.as_slice-in-Rel.ensures, c.as_slice-sorts.ensures, c.at.ensures no_symbol) at c.are_terms.ensures in
    rw c.in-Rel.is (answered (λ h. (c.is_symbol.ensures.0 c.if-not-is_symbol.false, h)) (λ h. h.1) all)

pub returns-in_ok-is_formula-in-Not-clause-sorted : goal.returns-in_ok-is_formula-in-Not-clause-sorted
returns-in_ok-is_formula-in-Not-clause-sorted t c =
    let body = rw c.get.ensures at c.in_ok-is_formula-in-Not.ensures.sorted in
    rw c.in-Not.is (Not-either c.args.sig.now c.args.copies c.args.scope.now.items c.in-Not.g c.in_ok-is_formula-in-Not.field-0 body)
