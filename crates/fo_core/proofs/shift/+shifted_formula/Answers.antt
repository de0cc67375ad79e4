use Rattle.std.proofs.Common.{◌∙◌, map, ap, sym, subst, rules}
use Rattle.std.proofs.lemmas.List.{take_all}
use Rattle.fo_core.specs.declared.formula.Formula.TheFolds.{the_lemmas}
use Rattle.fo_core.specs.declared.formula.Formula.TheVariants as F
use Rattle.fo_core.specs.Shift.{shift, CanShift}
use Rattle.fo_core.proofs.ShiftRows.{shift-Not, shift-And, shift-Or, shift-All, shift-Ex, can-Rel, can-Not, can-And, can-Or, can-All, can-Ex}
use Rattle.fo_core.proofs.shift.+shifted_formula.Goals as goal

pub shifted_terms-requires : goal.shifted_terms-requires
shifted_terms-requires t c =
    rw c.as_slice.ensures (can-Rel c.args.sig.now c.args.by c.in-Rel.r c.in-Rel.d c.in-Rel.args (subst (CanShift c.args.sig.now c.args.by) c.in-Rel.is c.requires)).2

pub shifted_formula-requires : goal.shifted_formula-requires
shifted_formula-requires t c =
    (search (rules, the_lemmas), rw c.get.ensures (can-Not c.args.sig.now c.args.by c.in-Not.g (subst (CanShift c.args.sig.now c.args.by) c.in-Not.is c.requires)))

pub shifted_formula-requires-in-conjuncts : goal.shifted_formula-requires-in-conjuncts
shifted_formula-requires-in-conjuncts t c =
    let all = can-And c.args.sig.now c.args.by c.as_slice-g-items.result.now (subst (CanShift c.args.sig.now c.args.by) (c.in-And.is ∙ ap F.And (sym c.as_slice-g-items.ensures)) c.requires) in
    (search (rules, the_lemmas), rw c.g-item.is (all c.conjuncts.g-index c.g-item.result c.conjuncts-test.true))

pub shifted_formula-requires-in-disjuncts : goal.shifted_formula-requires-in-disjuncts
shifted_formula-requires-in-disjuncts t c =
    let all = can-Or c.args.sig.now c.args.by c.as_slice-g-items-in-Or.result.now (subst (CanShift c.args.sig.now c.args.by) (c.in-Or.is ∙ ap F.Or (sym c.as_slice-g-items-in-Or.ensures)) c.requires) in
    (search (rules, the_lemmas), rw c.g-item-in-disjuncts.is (all c.disjuncts.g-index c.g-item-in-disjuncts.result c.disjuncts-test.true))

pub shifted_formula-requires-in-All : goal.shifted_formula-requires-in-All
shifted_formula-requires-in-All t c =
    (search (rules, the_lemmas), rw c.get-in-All.ensures (can-All c.args.sig.now c.args.by c.in-All.s c.in-All.g (subst (CanShift c.args.sig.now c.args.by) c.in-All.is c.requires)))

pub shifted_formula-requires-in-Ex : goal.shifted_formula-requires-in-Ex
shifted_formula-requires-in-Ex t c =
    (search (rules, the_lemmas), rw c.get-in-Ex.ensures (can-Ex c.args.sig.now c.args.by c.in-Ex.s c.in-Ex.g (subst (CanShift c.args.sig.now c.args.by) c.in-Ex.is c.requires)))

pub returns-in_ok-new-in-Not : goal.returns-in_ok-new-in-Not
returns-in_ok-new-in-Not t c =
    let body = c.in_ok-new-in-Not.ensures ∙ c.in_ok-body-in-Not.ensures ∙ ap (shift c.args.sig.now c.args.by) c.get.ensures in
    ap F.Not body ∙ sym (shift-Not c.args.sig.now c.args.by c.in-Not.g) ∙ ap (shift c.args.sig.now c.args.by) (sym c.in-Not.is)

pub returns-after-conjuncts : goal.returns-after-conjuncts
returns-after-conjuncts t c =
    let all = ap (map (shift c.args.sig.now c.args.by)) (take_all c.conjuncts.g-index c.as_slice-g-items.result.now c.conjuncts-test.false ∙ c.as_slice-g-items.ensures) in
    ap F.And (c.conjuncts.invariant ∙ all) ∙ sym (shift-And c.args.sig.now c.args.by c.in-And.fs) ∙ ap (shift c.args.sig.now c.args.by) (sym c.in-And.is)

pub returns-after-disjuncts : goal.returns-after-disjuncts
returns-after-disjuncts t c =
    let all = ap (map (shift c.args.sig.now c.args.by)) (take_all c.disjuncts.g-index c.as_slice-g-items-in-Or.result.now c.disjuncts-test.false ∙ c.as_slice-g-items-in-Or.ensures) in
    ap F.Or (c.disjuncts.invariant ∙ all) ∙ sym (shift-Or c.args.sig.now c.args.by c.in-Or.fs) ∙ ap (shift c.args.sig.now c.args.by) (sym c.in-Or.is)

pub returns-in_ok-new-in-All : goal.returns-in_ok-new-in-All
returns-in_ok-new-in-All t c =
    let body = c.in_ok-new-in-All.ensures ∙ c.in_ok-body-in-All.ensures ∙ ap (shift c.args.sig.now c.args.by) c.get-in-All.ensures in
    ap (F.All c.in-All.s) body ∙ sym (shift-All c.args.sig.now c.args.by c.in-All.s c.in-All.g) ∙ ap (shift c.args.sig.now c.args.by) (sym c.in-All.is)

pub returns-in_ok-new-in-Ex : goal.returns-in_ok-new-in-Ex
returns-in_ok-new-in-Ex t c =
    let body = c.in_ok-new-in-Ex.ensures ∙ c.in_ok-body-in-Ex.ensures ∙ ap (shift c.args.sig.now c.args.by) c.get-in-Ex.ensures in
    ap (F.Ex c.in-Ex.s) body ∙ sym (shift-Ex c.args.sig.now c.args.by c.in-Ex.s c.in-Ex.g) ∙ ap (shift c.args.sig.now c.args.by) (sym c.in-Ex.is)
