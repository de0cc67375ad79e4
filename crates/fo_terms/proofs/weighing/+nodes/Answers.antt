use Rattle.std.proofs.Common.{◌+◌, true, false, length, refl, sym, ap, subst, ◌∙◌, rules}
use Rattle.fo_core.specs.declared.formula.Formula.{Formula}
use Rattle.fo_core.specs.declared.formula.Formula.TheFolds.{the_lemmas}
use Rattle.fo_core.specs.declared.formula.Formula.TheVariants as F
use Rattle.fo_terms.specs.Weighable.{CanWeigh}
use Rattle.fo_core.specs.QueryWeight.{cut}
use Rattle.fo_terms.proofs.WeighLemmas.{Weighs, parts-more, weigh-Not, weigh-And, weigh-Or, weigh-All, weigh-Ex, weighs-at, weighs-Not, weighs-And, weighs-Or, weighs-All, weighs-not_All, weighs-Ex, weighs-not_Ex}
use Rattle.fo_terms.proofs.weighing.+nodes.Goals as goal

pub nodes-requires : goal.nodes-requires
nodes-requires t c =
    let n = length c.args.counts.now in
    (search (rules, the_lemmas), rw c.get.ensures (weigh-Not n c.in-Not.g (subst (CanWeigh n) c.in-Not.is c.requires)))

pub returns-in-Not : goal.returns-in-Not
returns-in-Not t c = rw (c.in-Not.is, ← c.get.ensures) (weighs-Not c.args.counts.now c.args.positive c.get.result.now c.args.above c.nodes.result c.nodes.ensures)

pub nodes-requires-in-conjuncts : goal.nodes-requires-in-conjuncts
nodes-requires-in-conjuncts t c =
    let n = length c.args.counts.now in
    let fs = c.as_slice-g-items.result.now in
    let is = c.in-And.is ∙ ap F.And (sym c.as_slice-g-items.ensures) in
    (search (rules, the_lemmas), rw c.g-item.is (weigh-And n fs c.conjuncts.g-index c.g-item.result (subst (CanWeigh n) is c.requires) c.conjuncts-test.true))

pub conjuncts-preserved : goal.conjuncts-preserved
conjuncts-preserved t c =
    let counts = c.args.counts.now in
    let here = subst (λ (g : Formula). Weighs counts c.args.positive g c.args.above c.nodes-in-conjuncts.result) c.g-item.is c.nodes-in-conjuncts.ensures in
    λ us e. c.saturating_add-sum.ensures
    ∙ parts-more counts c.args.positive c.as_slice-g-items.result.now c.conjuncts.g-index c.args.above c.conjuncts.sum c.nodes-in-conjuncts.result c.g-item.result c.conjuncts-test.true here us e (c.conjuncts.invariant us e)

pub returns-after-conjuncts : goal.returns-after-conjuncts
returns-after-conjuncts t c =
    let is = c.in-And.is ∙ ap F.And (sym c.as_slice-g-items.ensures) in
    rw is (weighs-And c.args.counts.now c.args.positive c.as_slice-g-items.result.now c.conjuncts.g-index c.args.above c.conjuncts.sum c.conjuncts-test.false c.conjuncts.invariant)

pub nodes-requires-in-disjuncts : goal.nodes-requires-in-disjuncts
nodes-requires-in-disjuncts t c =
    let n = length c.args.counts.now in
    let fs = c.as_slice-g-items-in-Or.result.now in
    let is = c.in-Or.is ∙ ap F.Or (sym c.as_slice-g-items-in-Or.ensures) in
    (search (rules, the_lemmas), rw c.g-item-in-disjuncts.is (weigh-Or n fs c.disjuncts.g-index c.g-item-in-disjuncts.result (subst (CanWeigh n) is c.requires) c.disjuncts-test.true))

pub disjuncts-preserved : goal.disjuncts-preserved
disjuncts-preserved t c =
    let counts = c.args.counts.now in
    let here = subst (λ (g : Formula). Weighs counts c.args.positive g c.args.above c.nodes-in-disjuncts.result) c.g-item-in-disjuncts.is c.nodes-in-disjuncts.ensures in
    λ us e. c.saturating_add-sum-in-disjuncts.ensures
    ∙ parts-more counts c.args.positive c.as_slice-g-items-in-Or.result.now c.disjuncts.g-index c.args.above c.disjuncts.sum c.nodes-in-disjuncts.result c.g-item-in-disjuncts.result c.disjuncts-test.true here us e (c.disjuncts.invariant us e)

pub returns-after-disjuncts : goal.returns-after-disjuncts
returns-after-disjuncts t c =
    let is = c.in-Or.is ∙ ap F.Or (sym c.as_slice-g-items-in-Or.ensures) in
    rw is (weighs-Or c.args.counts.now c.args.positive c.as_slice-g-items-in-Or.result.now c.disjuncts.g-index c.args.above c.disjuncts.sum c.disjuncts-test.false c.disjuncts.invariant)

pub bounds-counts-s : goal.bounds-counts-s
bounds-counts-s t c = let n = length c.args.counts.now in (weigh-All n c.in-All.s c.in-All.g (subst (CanWeigh n) c.in-All.is c.requires)).0

pub nodes-requires-then-not-positive : goal.nodes-requires-then-not-positive
nodes-requires-then-not-positive t c =
    let n = length c.args.counts.now in
    (search (rules, the_lemmas), rw c.get-then-not-positive.ensures (weigh-All n c.in-All.s c.in-All.g (subst (CanWeigh n) c.in-All.is c.requires)).1)

pub nodes-requires-in-All : goal.nodes-requires-in-All
nodes-requires-in-All t c =
    let n = length c.args.counts.now in
    (search (rules, the_lemmas), rw c.get-in-All.ensures (weigh-All n c.in-All.s c.in-All.g (subst (CanWeigh n) c.in-All.is c.requires)).1)

pub returns-then-not-positive : goal.returns-then-not-positive
returns-then-not-positive t c =
    let counts = c.args.counts.now in
    let body = weighs-at counts c.in-All.g c.get-then-not-positive.result.now false c.args.positive c.args.above c.nodes-then-not-positive.result c.nodes-then-not-positive.result (sym c.get-then-not-positive.ensures) (sym c.if-not-positive.true) refl c.nodes-then-not-positive.ensures in
    weighs-at counts c.args.f.now (F.All c.in-All.s c.in-All.g) c.args.positive false c.args.above c.saturating_add.result (cut (c.args.above + c.nodes-then-not-positive.result)) c.in-All.is c.if-not-positive.true c.saturating_add.ensures
    (weighs-not_All counts c.in-All.s c.in-All.g c.args.above c.nodes-then-not-positive.result body)

pub returns-else-not-positive : goal.returns-else-not-positive
returns-else-not-positive t c =
    let counts = c.args.counts.now in
    let body = weighs-at counts c.in-All.g c.get-in-All.result.now true c.args.positive c.saturating_mul-below.result c.nodes-in-All.result c.nodes-in-All.result (sym c.get-in-All.ensures) (sym c.if-not-positive.false) refl c.nodes-in-All.ensures in
    weighs-at counts c.args.f.now (F.All c.in-All.s c.in-All.g) c.args.positive true c.args.above c.saturating_add-in-All.result (cut (c.args.above + c.nodes-in-All.result)) c.in-All.is c.if-not-positive.false c.saturating_add-in-All.ensures
    (weighs-All counts c.in-All.s c.in-All.g c.args.above c.saturating_mul-below.result c.nodes-in-All.result c.saturating_mul-below.ensures body)

pub bounds-counts-s-in-Ex : goal.bounds-counts-s-in-Ex
bounds-counts-s-in-Ex t c = let n = length c.args.counts.now in (weigh-Ex n c.in-Ex.s c.in-Ex.g (subst (CanWeigh n) c.in-Ex.is c.requires)).0

pub nodes-requires-then-positive : goal.nodes-requires-then-positive
nodes-requires-then-positive t c =
    let n = length c.args.counts.now in
    (search (rules, the_lemmas), rw c.get-then-positive.ensures (weigh-Ex n c.in-Ex.s c.in-Ex.g (subst (CanWeigh n) c.in-Ex.is c.requires)).1)

pub nodes-requires-in-Ex : goal.nodes-requires-in-Ex
nodes-requires-in-Ex t c =
    let n = length c.args.counts.now in
    (search (rules, the_lemmas), rw c.get-in-Ex.ensures (weigh-Ex n c.in-Ex.s c.in-Ex.g (subst (CanWeigh n) c.in-Ex.is c.requires)).1)

pub returns-then-positive : goal.returns-then-positive
returns-then-positive t c =
    let counts = c.args.counts.now in
    let body = weighs-at counts c.in-Ex.g c.get-then-positive.result.now true c.args.positive c.args.above c.nodes-then-positive.result c.nodes-then-positive.result (sym c.get-then-positive.ensures) (sym c.if-positive.true) refl c.nodes-then-positive.ensures in
    weighs-at counts c.args.f.now (F.Ex c.in-Ex.s c.in-Ex.g) c.args.positive true c.args.above c.saturating_add-then-positive.result (cut (c.args.above + c.nodes-then-positive.result)) c.in-Ex.is c.if-positive.true c.saturating_add-then-positive.ensures
    (weighs-Ex counts c.in-Ex.s c.in-Ex.g c.args.above c.nodes-then-positive.result body)

pub returns-else-positive : goal.returns-else-positive
returns-else-positive t c =
    let counts = c.args.counts.now in
    let body = weighs-at counts c.in-Ex.g c.get-in-Ex.result.now false c.args.positive c.saturating_mul-below-in-Ex.result c.nodes-in-Ex.result c.nodes-in-Ex.result (sym c.get-in-Ex.ensures) (sym c.if-positive.false) refl c.nodes-in-Ex.ensures in
    weighs-at counts c.args.f.now (F.Ex c.in-Ex.s c.in-Ex.g) c.args.positive false c.args.above c.saturating_add-in-Ex.result (cut (c.args.above + c.nodes-in-Ex.result)) c.in-Ex.is c.if-positive.false c.saturating_add-in-Ex.ensures
    (weighs-not_Ex counts c.in-Ex.s c.in-Ex.g c.args.above c.saturating_mul-below-in-Ex.result c.nodes-in-Ex.result c.saturating_mul-below-in-Ex.ensures body)
