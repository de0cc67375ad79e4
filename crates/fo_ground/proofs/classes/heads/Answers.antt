use Rattle.std.proofs.Common.{◌≡◌, ◌∙◌, ◌+◌, ◌-◌, ℕ, true, false, sym, ap, length, arith}
use Rattle.std.specs.List.{list_any, position_or_len}
use Rattle.std.proofs.lemmas.List.Elements.{All-push}
use Rattle.prop_core.specs.Formula.{value_of}
use Rattle.fo_terms.specs.Universe.{IsOf}
use Rattle.fo_ground.specs.Classes.{heads as heads_before}
use Rattle.fo_ground.specs.Layout.{slot, same_by, fact_by}
use Rattle.fo_ground.proofs.HeadSteps.{heads-known, heads-new, heads-none, heads-stay, none-passes, some-passes}
use Rattle.fo_ground.proofs.classes.heads.Goals as goal
use Rattle.fo_ground.proofs.classes.heads.Goals.{then-number-len+in_ok-push, else-number-len}

pub each-init : goal.each-init
each-init c = record {
  built = c.new-heads.ensures.items ∙ sym (heads-none c.args.u.now.terms (slot c.args.u.now c.args.lay.now) (same_by c.args.u.now c.args.lay.now (value_of c.args.values.now)) (fact_by c.args.u.now c.args.lay.now (value_of c.args.values.now)) c.args.sort c.at-first.result.now (λ q lt is.
      let few = c.requires.ready.few_terms in
      let ends = c.requires.ready.ends c.args.sort c.requires.sort in
      let of = (c.requires.ready.blocks c.args.sort q c.requires.sort).0 (omega (arith, lt, c.at-first.ensures 0, ends), is) in
      omega (arith, of.0, c.at-first.ensures 0)));
  sorted = rw c.new-heads.ensures.items (λ k d lt. absurd (omega arith));
}

pub each-preserved : goal.each-preserved
each-preserved c =
    let n = c.each.p in
    let first = c.at-first.ensures 0 in
    let size = c.at.ensures 0 in
    let of = (c.requires.ready.blocks c.args.sort n c.requires.sort).1 (omega (arith, first, c.each.auto.p), omega (arith, first, size, c.each-test.true)) in
    let hs = heads_before c.args.u.now.terms (slot c.args.u.now c.args.lay.now) (same_by c.args.u.now c.args.lay.now (value_of c.args.values.now)) (fact_by c.args.u.now c.args.lay.now (value_of c.args.values.now)) c.args.sort n in
    let test = (λ (q : ℕ). same_by c.args.u.now c.args.lay.now (value_of c.args.values.now) q n) in
    let number : c.class_number-number.result ≡ position_or_len test hs = c.class_number-number.ensures ∙ ap (position_or_len test) (c.as_slice.ensures.value ∙ c.each.invariant.built) in
    let ok = c.each.heads.ok in
    let len : c.len.result ≡ length hs = omega (arith, c.len.ensures, ok.0, ap length c.each.invariant.built) in
    elim c.if-number-len.branch [
      | then-number-len+in_ok-push w ↦
          let none : list_any test hs ≡ false = none-passes test hs (sym number ∙ w.if-number-len.true ∙ len) in
          record {
            built = rw (w.heads-is, w.in_ok-push.ensures.items, c.each.invariant.built) (sym (heads-new c.args.u.now.terms (slot c.args.u.now c.args.lay.now) (same_by c.args.u.now c.args.lay.now (value_of c.args.values.now)) (fact_by c.args.u.now c.args.lay.now (value_of c.args.values.now)) c.args.sort n of.1 none));
            sorted = rw (w.heads-is, w.in_ok-push.ensures.items) (All-push (IsOf c.args.u.now.terms c.args.sort) c.each.heads.items n c.each.invariant.sorted of);
          }
      | else-number-len w ↦
          let some : list_any test hs ≡ true = some-passes test hs (λ e. w.if-number-len.false (number ∙ e ∙ sym len)) in
          record { built = rw (w.heads-is, c.each.invariant.built) (sym (heads-known c.args.u.now.terms (slot c.args.u.now c.args.lay.now) (same_by c.args.u.now c.args.lay.now (value_of c.args.values.now)) (fact_by c.args.u.now c.args.lay.now (value_of c.args.values.now)) c.args.sort n of.1 some)); sorted = rw w.heads-is c.each.invariant.sorted }
    ]

pub returns : goal.returns
returns c =
    let first = c.at-first.ensures 0 in
    let size = c.at.ensures 0 in
    let ends = c.requires.ready.ends c.args.sort c.requires.sort in
    let end = c.each.auto.p-end (omega arith) in
    let all : c.each.p + (length c.args.u.now.terms - c.each.p) ≡ length c.args.u.now.terms = omega (arith, end, first, size, ends) in
    let stay = heads-stay c.args.u.now.terms (slot c.args.u.now c.args.lay.now) (same_by c.args.u.now c.args.lay.now (value_of c.args.values.now)) (fact_by c.args.u.now c.args.lay.now (value_of c.args.values.now)) c.args.sort c.each.p (length c.args.u.now.terms - c.each.p) (λ q ge lt is.
    let of = (c.requires.ready.blocks c.args.sort q c.requires.sort).0 (omega (arith, lt, all), is) in
    omega (arith, of.1, first, size, ge, c.each-test.false)) in
    c.from_vec.ensures ∙ c.each.invariant.built ∙ sym stay ∙ ap (heads_before c.args.u.now.terms (slot c.args.u.now c.args.lay.now) (same_by c.args.u.now c.args.lay.now (value_of c.args.values.now)) (fact_by c.args.u.now c.args.lay.now (value_of c.args.values.now)) c.args.sort) all
