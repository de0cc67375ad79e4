use Rattle.std.proofs.Common.{◌∙◌, map, ap, sym, subst, rules}
use Rattle.std.proofs.lemmas.List.{take_all}
use Rattle.fo_core.specs.declared.term.Term.TheFolds.{the_lemmas}
use Rattle.fo_core.specs.declared.term.Term.TheVariants.{App}
use Rattle.fo_core.specs.Shift.{moved, shift_term, CanShiftTerm}
use Rattle.fo_core.proofs.ShiftRows.{shift-App, can-App}
use Rattle.fo_core.proofs.shift.+shifted_term.Goals as goal

pub shifted_term-requires : goal.shifted_term-requires
shifted_term-requires t c =
    let all = can-App c.args.sig.now c.args.by c.in-App.f c.in-App.d c.as_slice-arg-items.result.now (subst (CanShiftTerm c.args.sig.now c.args.by) (c.in-App.is ∙ ap (App c.in-App.f c.in-App.d) (sym c.as_slice-arg-items.ensures)) c.requires) in
    (search (rules, the_lemmas), subst (CanShiftTerm c.args.sig.now c.args.by) (sym c.arg-item.is) (all.2 c.each.arg-index c.arg-item.result c.each-test.true))

pub returns-after-each : goal.returns-after-each
returns-after-each t c =
    let all = ap (map (shift_term c.args.sig.now c.args.by)) (take_all c.each.arg-index c.as_slice-arg-items.result.now c.each-test.false ∙ c.as_slice-arg-items.ensures) in
    ap (λ d. App c.in-App.f d c.each.moved_args) c.moved.ensures
    ∙ ap (App c.in-App.f (moved c.args.sig.now c.args.by c.in-App.f c.in-App.d)) (c.each.invariant ∙ all)
    ∙ sym (shift-App c.args.sig.now c.args.by c.in-App.f c.in-App.d c.in-App.args) ∙ ap (shift_term c.args.sig.now c.args.by) (sym c.in-App.is)
