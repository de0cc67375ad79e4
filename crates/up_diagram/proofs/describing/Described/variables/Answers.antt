use Rattle.std.proofs.Common.{◌<◌, arith, subst, sym, slice_index}
use Rattle.fo_core.proofs.PlaceLemmas.{sort_within}
use Rattle.up_diagram.proofs.Described.{variable-below, variables-step, variables-done}
use Rattle.up_diagram.proofs.describing.Described.variables.Goals as goal

pub bounds-firsts-sorts : goal.bounds-firsts-sorts
bounds-firsts-sorts c =
    subst (λ n. slice_index c.args.sorts.now c.each.i < n) (sym c.requires.firsts.count)
    (sort_within c.args.self.now.world.now.sizes c.args.sorts.now c.args.elements.now c.requires.elements c.each.i c.each-test.true)

pub overflow_add-firsts : goal.overflow_add-firsts
overflow_add-firsts c =
    let below = variable-below c.args.self.now.world.now.sizes c.args.self.now.firsts.now c.requires.firsts c.args.sorts.now c.args.elements.now c.requires.elements c.each.i c.each-test.true in
    omega (arith, below, c.requires.few)

pub each-preserved : goal.each-preserved
each-preserved c =
    variables-step c.args.self.now.world.now.sizes c.args.self.now.firsts.now c.requires.firsts c.args.sorts.now c.args.elements.now c.requires.elements c.each.i
    c.each.list _ c.each-test.true c.each.invariant c.in_ok-push.ensures.ok

pub returns : goal.returns
returns c =
    variables-done c.args.self.now.world.now.sizes c.args.self.now.firsts.now c.requires.firsts c.args.sorts.now c.args.elements.now c.requires.elements c.each.i
    c.each.list (omega (arith, c.each-test.false)) c.each.invariant
