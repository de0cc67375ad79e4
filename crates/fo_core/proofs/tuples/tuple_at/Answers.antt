use Rattle.std.proofs.Common.{◌∙◌, map, subst, arith}
use Rattle.std.specs.Prelude.{slice_index, ◌≡◌}
use Rattle.fo_core.proofs.TupleDigits.{AreFound, digit, found-all}
use Rattle.fo_core.proofs.tuples.tuple_at.Goals as goal

pub each-preserved : goal.each-preserved
each-preserved c =
    digit c.args.sizes.now c.args.sorts.now c.each.digits.items c.each.i c.each.rest c.args.number c.from-size.result c.requires.nonempty c.requires.known
    c.each-test.true c.each.auto.i c.from-size.ensures c.each.invariant

pub returns : goal.returns
returns c =
    let ns = map (slice_index c.args.sizes.now) c.args.sorts.now in
    let at_end : c.each.i ≡ 0 = omega (arith, c.each-test.false) in
    c.from_vec.ensures ∙ found-all ns c.each.digits.items c.each.rest c.args.number c.requires.within (subst (λ i. AreFound ns c.each.digits.items i c.each.rest c.args.number) at_end c.each.invariant)
