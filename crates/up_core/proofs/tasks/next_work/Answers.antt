use Rattle.std.proofs.Common.{◌+◌, Some, None, sym, subst, arith}
use Rattle.up_core.proofs.OpenChosen.{IsBestOf, best-more, best-none, best-some}
use Rattle.up_core.proofs.tasks.next_work.Goals as goal

pub each-preserved : goal.each-preserved
each-preserved c =
    let es = c.args.obligations.now.items in
    let k = c.open_at in
    subst (IsBestOf es (c.each.at + 1)) (sym c.better-best.ensures) (best-more es c.each.at k.result k.ensures.number k.ensures.there c.each.best c.each.invariant)

pub returns-in-Some : goal.returns-in-Some
returns-in-Some c =
    let es = c.args.obligations.now.items in
    best-some es c.each.at c.in-Some.found (omega (arith, c.each-test.false, c.each.auto.at-end, c.count_open-at-end.ensures)) (subst (IsBestOf es c.each.at) c.in-Some.is c.each.invariant)

pub returns-in-None : goal.returns-in-None
returns-in-None c =
    let es = c.args.obligations.now.items in
    best-none es c.each.at (omega (arith, c.each-test.false, c.each.auto.at-end, c.count_open-at-end.ensures)) (subst (IsBestOf es c.each.at) c.in-None.is c.each.invariant)
