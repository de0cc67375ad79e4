use Rattle.std.proofs.Common.{◌/◌, get_or, arith}
use Rattle.std.specs.Prelude.{slice_index}
use Rattle.fo_terms.specs.Blocks.{arguments_at}
use Rattle.fo_terms.proofs.BaseLemmas.{tuples-rest, offset-below, number-below, arguments-more, next-below}
use Rattle.fo_terms.proofs.build.arguments.Goals as goal

pub overflow_cast-offset : goal.overflow_cast-offset
overflow_cast-offset c =
    let firsts = c.args.sizes.now.firsts in
    let counts = c.args.sizes.now.counts in
    let sorts = c.args.sorts.now in
    let i = c.each.sort-index in
    let s = get_or sorts i 0 in
    let known = c.requires.sorts i 0 c.each-test.true in
    let below = offset-below firsts counts sorts i c.each-test.true c.each.tuples c.each.number (c.requires.bases.some s known) c.each.invariant.tuples c.each.invariant.below in
    rw (c.at.ensures 0) (omega (arith, below, c.requires.bases.few s known))

pub overflow_add-at : goal.overflow_add-at
overflow_add-at c =
    let firsts = c.args.sizes.now.firsts in
    let counts = c.args.sizes.now.counts in
    let sorts = c.args.sorts.now in
    let i = c.each.sort-index in
    let s = get_or sorts i 0 in
    let known = c.requires.sorts i 0 c.each-test.true in
    let below = offset-below firsts counts sorts i c.each-test.true c.each.tuples c.each.number (c.requires.bases.some s known) c.each.invariant.tuples c.each.invariant.below in
    rw (c.at.ensures 0, c.at-in-each.ensures 0) (omega (arith, next-below (slice_index firsts s) (slice_index counts s) (c.each.number / (c.each.tuples / slice_index counts s)) (c.requires.bases.few s known) below))

pub each-preserved : goal.each-preserved
each-preserved c =
    let firsts = c.args.sizes.now.firsts in
    let counts = c.args.sizes.now.counts in
    let sorts = c.args.sorts.now in
    let i = c.each.sort-index in
    let s = get_or sorts i 0 in
    let known = c.requires.sorts i 0 c.each-test.true in
    let some = c.requires.bases.some s known in
    let lt = c.each-test.true in
    let inv = c.each.invariant in
    let size = c.at.ensures 0 in
    let first = c.at-in-each.ensures 0 in
    record {
      tuples = rw size (tuples-rest firsts counts sorts i lt c.each.tuples c.each.number some inv.tuples inv.below);
      below = rw size (number-below firsts counts sorts i lt c.each.tuples c.each.number some inv.tuples inv.below);
      args = rw (c.in_ok-push.ensures.ok, size, first) (arguments-more firsts counts sorts i lt c.each.tuples c.each.number some inv.tuples inv.below c.each.args (arguments_at firsts counts sorts c.args.number) inv.args);
    }
