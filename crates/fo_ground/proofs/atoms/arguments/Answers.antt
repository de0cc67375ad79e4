use Rattle.std.proofs.Common.{◌≡◌, ◌∙◌, ◌+◌, ◌*◌, ◌/◌, ◌<◌, ap, subst, arith, get_or, drop, map}
use Rattle.std.specs.Prelude.{slice_index}
use Rattle.fo_core.specs.Weights.{power}
use Rattle.fo_core.specs.TermCounts.{term_counts}
use Rattle.fo_ground.specs.declared.layout.Layout.{Layout}
use Rattle.fo_ground.specs.Numbers.{count_of}
use Rattle.fo_ground.proofs.ArgumentLemmas.{part-positive, quotient-lt, rest-lt, part-is, power-split, next-argument}
use Rattle.fo_ground.proofs.atoms.arguments.Goals as goal
use Rattle.fo_terms.specs.Blocks.{raised}
use Rattle.fo_core.specs.Tuples.{tuple_at}

pub nonzero_div-number : goal.nonzero_div-number
nonzero_div-number c =
    let i = c.each.sort-index in
    let s = get_or c.args.sorts.now c.each.sort-index 0 in
    let T = power c.args.lay.now.sizes (drop (c.each.sort-index + 1) c.args.sorts.now) in
    let n = slice_index c.args.lay.now.sizes (get_or c.args.sorts.now c.each.sort-index 0) in
    let split : c.each.tuples ≡ n * T = c.each.invariant.tuples ∙ power-split c.args.lay.now.sig c.args.lay.now.copies c.args.u.now c.args.sorts.now c.each.sort-index c.each-test.true c.args.lay.now.sizes in
    let below : c.each.number < n * T = subst (λ m. c.each.number < m) split c.each.invariant.number in
    let part : c.each.tuples / c.at.result.now ≡ T = ap (λ m. m / c.at.result.now) split ∙ ap (λ m. (n * T) / m) (c.at.ensures 0) ∙ part-is n T c.each.number below in
    rw part (part-positive n T c.each.number below)

pub overflow_add-at : goal.overflow_add-at
overflow_add-at c =
    let i = c.each.sort-index in
    let s = get_or c.args.sorts.now c.each.sort-index 0 in
    let T = power c.args.lay.now.sizes (drop (c.each.sort-index + 1) c.args.sorts.now) in
    let n = slice_index c.args.lay.now.sizes (get_or c.args.sorts.now c.each.sort-index 0) in
    let split : c.each.tuples ≡ n * T = c.each.invariant.tuples ∙ power-split c.args.lay.now.sig c.args.lay.now.copies c.args.u.now c.args.sorts.now c.each.sort-index c.each-test.true c.args.lay.now.sizes in
    let below : c.each.number < n * T = subst (λ m. c.each.number < m) split c.each.invariant.number in
    let part : c.each.tuples / c.at.result.now ≡ T = ap (λ m. m / c.at.result.now) split ∙ ap (λ m. (n * T) / m) (c.at.ensures 0) ∙ part-is n T c.each.number below in
    let ends = c.requires.ready.ends s (c.requires.sorts c.each.sort-index 0 c.each-test.true) in
    let q = quotient-lt n T c.each.number below in
    rw (part, c.at-in-each.ensures 0) (omega (arith, q, ends, c.requires.ready.few_terms))

pub nonzero_rem-number : goal.nonzero_rem-number
nonzero_rem-number c =
    let i = c.each.sort-index in
    let s = get_or c.args.sorts.now c.each.sort-index 0 in
    let T = power c.args.lay.now.sizes (drop (c.each.sort-index + 1) c.args.sorts.now) in
    let n = slice_index c.args.lay.now.sizes (get_or c.args.sorts.now c.each.sort-index 0) in
    let split : c.each.tuples ≡ n * T = c.each.invariant.tuples ∙ power-split c.args.lay.now.sig c.args.lay.now.copies c.args.u.now c.args.sorts.now c.each.sort-index c.each-test.true c.args.lay.now.sizes in
    let below : c.each.number < n * T = subst (λ m. c.each.number < m) split c.each.invariant.number in
    let part : c.each.tuples / c.at.result.now ≡ T = ap (λ m. m / c.at.result.now) split ∙ ap (λ m. (n * T) / m) (c.at.ensures 0) ∙ part-is n T c.each.number below in
    rw part (part-positive n T c.each.number below)

pub each-preserved : goal.each-preserved
each-preserved c =
    let i = c.each.sort-index in
    let s = get_or c.args.sorts.now c.each.sort-index 0 in
    let T = power c.args.lay.now.sizes (drop (c.each.sort-index + 1) c.args.sorts.now) in
    let n = slice_index c.args.lay.now.sizes (get_or c.args.sorts.now c.each.sort-index 0) in
    let split : c.each.tuples ≡ n * T = c.each.invariant.tuples ∙ power-split c.args.lay.now.sig c.args.lay.now.copies c.args.u.now c.args.sorts.now c.each.sort-index c.each-test.true c.args.lay.now.sizes in
    let below : c.each.number < n * T = subst (λ m. c.each.number < m) split c.each.invariant.number in
    let part : c.each.tuples / c.at.result.now ≡ T = ap (λ m. m / c.at.result.now) split ∙ ap (λ m. (n * T) / m) (c.at.ensures 0) ∙ part-is n T c.each.number below in
    let same : c.args.lay.now.sizes ≡ term_counts c.args.lay.now.sig c.args.lay.now.copies = ap (λ (l : Layout). l.sizes) c.requires.same in
    let part' : c.each.tuples / c.at.result.now ≡ power (term_counts c.args.lay.now.sig c.args.lay.now.copies) (drop (c.each.sort-index + 1) c.args.sorts.now) = part ∙ ap (λ U. power U (drop (c.each.sort-index + 1) c.args.sorts.now)) same in
    record {
      tuples = part;
      number = rw part (rest-lt n T c.each.number below);
      args = rw (c.in_ok-push.ensures.items, c.at-in-each.ensures 0, part') (next-argument c.args.lay.now.sig c.args.lay.now.copies c.args.u.now c.args.sorts.now c.each.sort-index c.each-test.true c.each.args.items (raised c.args.u.now.firsts c.args.sorts.now (tuple_at (map (count_of c.args.lay.now.sig c.args.lay.now.copies c.args.u.now) c.args.sorts.now) c.args.number)) c.each.number c.each.invariant.args);
    }
