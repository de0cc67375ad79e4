use Rattle.std.proofs.Common.{◌∙◌, sym, arith}
use Rattle.fo_core.proofs.CountLemmas.{count_more, rest_positive, product-ge}
use Rattle.fo_core.proofs.tuples.tuple_count.Goals as goal

pub returns-in-None : goal.returns-in-None
returns-in-None c =
    let e = sym (count_more c.args.sizes.now c.args.sorts.now c.each.s-index c.each.count c.each-test.true) ∙ c.each.invariant in
    let le = product-ge _ _ _ e (rest_positive c.args.sizes.now c.args.sorts.now _ c.requires.nonempty c.requires.known) in
    let over = rw (c.from-size.ensures) at c.in-None.ensures in
    omega (arith, le, over)

pub each-preserved : goal.each-preserved
each-preserved c =
    let e = sym (count_more c.args.sizes.now c.args.sorts.now c.each.s-index c.each.count c.each-test.true) ∙ c.each.invariant in
    rw (c.in-Some.ensures.1, c.from-size.ensures) e
