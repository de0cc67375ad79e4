use Rattle.std.proofs.Common.{◌≡◌, ◌+◌, ◌<◌, length, get_or, ◌∙◌, arith, length-set}
use Rattle.std.specs.Prelude.{slice_index}
use Rattle.fo_terms.proofs.BaseLemmas.{firsts-more}
use Rattle.fo_terms.proofs.Sums.{added-at, added-more, added-take}
use Rattle.fo_terms.proofs.build.firsts.Goals as goal

pub overflow_cast-next : goal.overflow_cast-next
overflow_cast-next c =
    let le = added-at (slice_index c.args.counts.now) c.args.ranked.now c.each.sort-index 0 c.each-test.true in
    omega (arith, le, c.requires.few)

pub overflow_add-next : goal.overflow_add-next
overflow_add-next c =
    let le = added-take (slice_index c.args.counts.now) (c.each.sort-index + 1) c.args.ranked.now in
    omega (arith, le, c.requires.few, c.each.invariant.next, added-more (slice_index c.args.counts.now) c.args.ranked.now c.each.sort-index 0 c.each-test.true)

pub each-preserved : goal.each-preserved
each-preserved c =
    let counts = c.args.counts.now in
    let ranked = c.args.ranked.now in
    let i = c.each.sort-index in
    let t = get_or ranked i 0 in
    let len : length c.each.firsts.items ≡ length counts = c.each.invariant.len in
    let within : t < length c.each.firsts.items = omega (arith, c.requires.sorts i 0 c.each-test.true) in
    record {
      len = length-set c.each.firsts.items t c.each.next ∙ len;
      next = omega (arith, c.each.invariant.next, added-more (slice_index counts) ranked i 0 c.each-test.true);
      placed = firsts-more ranked counts c.each.firsts.items c.requires.once i c.each.next c.each-test.true within c.each.invariant.next c.each.invariant.placed;
    }
