use Rattle.std.proofs.Common.{◌≡◌, ◌<◌, ◌≤◌, ℕ, ◌+◌, arith, sym, ap, ◌∙◌, subst, length, get_or, take, ◌++◌, ◌∷◌, [], inl, inr, Bool}
use Rattle.std.specs.List.{filter}
use Rattle.pyv_meaning.specs.Tree.{Name}
use Rattle.pyv_sorts.specs.Placing.{name_in, names_in}
use Rattle.pyv_sorts.proofs.Picking.{has_at, all_below, picks_pushed, picks_end, names_length}
use Rattle.pyv_sorts.proofs.free.picked.Goals as goal
use Rattle.pyv_sorts.proofs.free.picked.Goals.{then-at-next+in_ok-push, else-at-next}

pub bounds-variables-at : goal.bounds-variables-at
bounds-variables-at c = c.requires.within _ (has_at c.args.numbers.now c.each.number-index c.each-test.true)

pub each-preserved : goal.each-preserved
each-preserved c =
    let ns = c.args.numbers.now in
    let i = c.each.number-index in
    elim c.if-at-next.branch [
      | then-at-next+in_ok-push w ↦
          let bound = c.requires.within _ (has_at ns i c.each-test.true) in
          let pushed = w.in_ok-push.ensures.items in
          record {
            within = omega (arith, w.next-is, bound);
            low = all_below ns i c.each.next c.if-at-next.next c.each.invariant.low (omega (arith, w.next-is, w.if-at-next.true)) (omega (arith, w.next-is));
            found = λ P h. picks_pushed P c.args.variables.now ns c.requires.sorted h i c.each.next c.if-at-next.next c.each.invariant.low c.each.found.items c.if-at-next.found.items _ c.each-test.true w.if-at-next.true bound w.next-is (ap (λ v. v.items) w.found-is ∙ pushed) (c.each.invariant.found P h);
          }
      | else-at-next w ↦ record {
        within = rw w.next-is c.each.invariant.within;
        low = all_below ns i c.each.next c.if-at-next.next c.each.invariant.low (omega (arith, w.next-is)) (omega (arith, w.next-is, w.if-at-next.false));
        found = rw (w.next-is, w.found-is) c.each.invariant.found;
      }
    ]

pub returns : goal.returns
returns c = λ P h. c.each.invariant.found P h ∙ picks_end P (names_in c.args.variables.now) c.args.numbers.now c.requires.sorted h c.each.number-index c.each.next c.each.invariant.low c.each-test.false (omega (arith, c.each.invariant.within, names_length c.args.variables.now))
