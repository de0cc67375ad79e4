use Rattle.std.proofs.Common.{◌≡◌, ◌∙◌, ◌+◌, ◌*◌, ◌/◌, ◌<◌, [], ap, subst, arith, get_or, drop, map}
use Rattle.std.specs.Prelude.{slice_index}
use Rattle.fo_core.specs.Weights.{power}
use Rattle.fo_ground.specs.Reading.{picked}
use Rattle.fo_ground.proofs.ArgumentLemmas.{quotient-lt, rest-lt, part-is, power-step-one, next-pick}
use Rattle.fo_ground.proofs.tables.tuple_heads.Goals as goal
use Rattle.fo_core.specs.Tuples.{tuple_at}

pub at-requires-in-each : goal.at-requires-in-each
at-requires-in-each c =
    let n = slice_index c.args.classes.now.sizes (get_or c.args.sorts.now c.each.sort-index 0) in
    let T = power c.args.classes.now.sizes (drop (c.each.sort-index + 1) c.args.sorts.now) in
    let split : c.each.tuples ≡ n * T = c.each.invariant.tuples ∙ power-step-one c.args.classes.now.sizes c.args.sorts.now c.each.sort-index c.each-test.true in
    let below : c.each.number < n * T = subst (λ m. c.each.number < m) split c.each.invariant.number in
    let part : c.each.tuples / c.at.result.now ≡ T = ap (λ m. m / c.at.result.now) split ∙ ap (λ m. (n * T) / m) (c.at.ensures 0) ∙ part-is n T c.each.number below in
    let q = quotient-lt n T c.each.number below in
    let size = c.requires.sizes (get_or c.args.sorts.now c.each.sort-index 0) (c.requires.sorts c.each.sort-index 0 c.each-test.true) in
    rw (part, c.at-heads.ensures []) (omega (arith, q, size))

pub each-preserved : goal.each-preserved
each-preserved c =
    let n = slice_index c.args.classes.now.sizes (get_or c.args.sorts.now c.each.sort-index 0) in
    let T = power c.args.classes.now.sizes (drop (c.each.sort-index + 1) c.args.sorts.now) in
    let split : c.each.tuples ≡ n * T = c.each.invariant.tuples ∙ power-step-one c.args.classes.now.sizes c.args.sorts.now c.each.sort-index c.each-test.true in
    let below : c.each.number < n * T = subst (λ m. c.each.number < m) split c.each.invariant.number in
    let part : c.each.tuples / c.at.result.now ≡ T = ap (λ m. m / c.at.result.now) split ∙ ap (λ m. (n * T) / m) (c.at.ensures 0) ∙ part-is n T c.each.number below in
    record {
      tuples = part;
      number = rw part (rest-lt n T c.each.number below);
      args = rw (c.in_ok-push.ensures.items, c.at-in-each.ensures 0, c.at-heads.ensures [], part) (next-pick c.args.classes.now.heads c.args.classes.now.sizes c.args.sorts.now c.each.sort-index c.each-test.true c.each.args.items (picked c.args.classes.now.heads c.args.sorts.now (tuple_at (map (slice_index c.args.classes.now.sizes) c.args.sorts.now) c.args.number)) c.each.number c.each.invariant.args);
    }
