use Rattle.std.proofs.Common.{◌≡◌, ◌∙◌, sym, ap, arith}
use Rattle.fo_core.specs.declared.formula.Formula.TheVariants as F
use Rattle.fo_core.proofs.Answered.{false_from, never}
use Rattle.fo_core.proofs.Rows.{binders-All, binders-Ex}
use Rattle.fo_core.proofs.SortedLemmas.{depth-Not, depth-And-false, depth-And-true, depth-Or-false, depth-Or-true, depth-All, depth-Ex}
use Rattle.fo_core.proofs.depth.+nests_at_most.Goals as goal

pub returns-then-not-nests_at_most : goal.returns-then-not-nests_at_most
returns-then-not-nests_at_most t c =
    let is = c.in-And.is ∙ ap F.And (sym c.as_slice-g-items.ensures) in
    rw is (depth-And-false c.args.depth c.as_slice-g-items.result.now c.conjuncts.g-index c.g-item.result c.conjuncts-test.true c.g-item.is (false_from c.nests_at_most-in-conjuncts.result c.if-not-nests_at_most.true c.nests_at_most-in-conjuncts.ensures))

pub returns-then-not-nests_at_most-2 : goal.returns-then-not-nests_at_most-2
returns-then-not-nests_at_most-2 t c =
    let is = c.in-Or.is ∙ ap F.Or (sym c.as_slice-g-items-in-Or.ensures) in
    rw is (depth-Or-false c.args.depth c.as_slice-g-items-in-Or.result.now c.disjuncts.g-index c.g-item-in-disjuncts.result c.disjuncts-test.true c.g-item-in-disjuncts.is (false_from c.nests_at_most-in-disjuncts.result c.if-not-nests_at_most-2.true c.nests_at_most-in-disjuncts.ensures))

pub returns-in-Not : goal.returns-in-Not
returns-in-Not t c = rw (c.in-Not.is, ← c.get.ensures) (depth-Not c.args.depth c.get.result.now c.nests_at_most.result c.nests_at_most.ensures)

pub returns-after-conjuncts : goal.returns-after-conjuncts
returns-after-conjuncts t c =
    let is = c.in-And.is ∙ ap F.And (sym c.as_slice-g-items.ensures) in
    rw is (depth-And-true c.args.depth c.as_slice-g-items.result.now c.conjuncts.g-index c.conjuncts-test.false c.conjuncts.invariant)

pub returns-after-disjuncts : goal.returns-after-disjuncts
returns-after-disjuncts t c =
    let is = c.in-Or.is ∙ ap F.Or (sym c.as_slice-g-items-in-Or.ensures) in
    rw is (depth-Or-true c.args.depth c.as_slice-g-items-in-Or.result.now c.disjuncts.g-index c.disjuncts-test.false c.disjuncts.invariant)

pub returns-then-depth-gt0 : goal.returns-then-depth-gt0
returns-then-depth-gt0 t c =
    rw (c.in-All.is, ← c.get-then-depth-gt0.ensures) (depth-All c.args.depth c.in-All.field-0 c.get-then-depth-gt0.result.now c.nests_at_most-then-depth-gt0.result _ (omega arith) c.nests_at_most-then-depth-gt0.ensures)

pub returns-else-depth-gt0 : goal.returns-else-depth-gt0
returns-else-depth-gt0 t c =
    let none : c.args.depth ≡ 0 = omega arith in
    rw (none, c.in-All.is) (never _ (λ le. absurd (omega (arith, binders-All c.in-All.field-0 c.in-All.g))))

pub returns-then-depth-gt0-2 : goal.returns-then-depth-gt0-2
returns-then-depth-gt0-2 t c =
    rw (c.in-Ex.is, ← c.get-then-depth-gt0-2.ensures) (depth-Ex c.args.depth c.in-Ex.field-0 c.get-then-depth-gt0-2.result.now c.nests_at_most-then-depth-gt0-2.result _ (omega arith) c.nests_at_most-then-depth-gt0-2.ensures)

pub returns-else-depth-gt0-2 : goal.returns-else-depth-gt0-2
returns-else-depth-gt0-2 t c =
    let none : c.args.depth ≡ 0 = omega arith in
    rw (none, c.in-Ex.is) (never _ (λ le. absurd (omega (arith, binders-Ex c.in-Ex.field-0 c.in-Ex.g))))
