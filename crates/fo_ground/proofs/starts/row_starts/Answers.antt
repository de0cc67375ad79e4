use Rattle.std.proofs.Common.{◌≡◌, ◌∙◌, ◌<◌, List, sym, ap, subst, refl, arith, length}
use Rattle.std.proofs.lemmas.List.FromFn.{map-range_with_len_more}
use Rattle.fo_terms.specs.declared.terms.Ground.{Ground}
use Rattle.fo_terms.specs.Universe.{no_ground, sort_at}
use Rattle.fo_ground.specs.Numbers.{row_start}
use Rattle.fo_ground.proofs.Numbering.{in_block}
use Rattle.fo_ground.proofs.Ready.{ends-are}
use Rattle.fo_ground.proofs.StartLemmas.{item-is, term_counts-length, row_start-more, row_start-all}
use Rattle.fo_ground.proofs.starts.row_starts.Goals as goal

pub bounds-sizes-sort : goal.bounds-sizes-sort
bounds-sizes-sort c =
    let e = item-is c.as_slice-term-items.result.now c.args.u.now.terms c.each.p no_ground c.term-item.result c.term-item.is c.each-test.true c.as_slice-term-items.ensures in
    let es : c.term-item.result.sort ≡ sort_at c.args.u.now.terms c.each.p = ap (λ (g : Ground). g.sort) e in
    let lt : c.each.p < length c.args.u.now.terms = subst (λ (ts : List Ground). c.each.p < length ts) c.as_slice-term-items.ensures c.each-test.true in
    let below = c.requires.universe.sorts c.each.p lt in
    let len = ap length c.requires.sizes ∙ term_counts-length c.args.sig.now c.args.copies in
    omega (arith, es, below, len)

pub overflow_add-later : goal.overflow_add-later
overflow_add-later c =
    let e = item-is c.as_slice-term-items.result.now c.args.u.now.terms c.each.p no_ground c.term-item.result c.term-item.is c.each-test.true c.as_slice-term-items.ensures in
    let es : c.term-item.result.sort ≡ sort_at c.args.u.now.terms c.each.p = ap (λ (g : Ground). g.sort) e in
    let lt : c.each.p < length c.args.u.now.terms = subst (λ (ts : List Ground). c.each.p < length ts) c.as_slice-term-items.ensures c.each-test.true in
    let below = c.requires.universe.sorts c.each.p lt in
    let ends = ends-are c.args.sig.now c.args.copies c.args.u.now c.requires.universe c.requires.arranged c.requires.few (term_counts-length c.args.sig.now c.args.copies) (sort_at c.args.u.now.terms c.each.p) below in
    rw (c.at.ensures 0, es, c.requires.sizes) (omega (arith, ends, c.requires.few))

pub overflow_sub-later : goal.overflow_sub-later
overflow_sub-later c =
    let e = item-is c.as_slice-term-items.result.now c.args.u.now.terms c.each.p no_ground c.term-item.result c.term-item.is c.each-test.true c.as_slice-term-items.ensures in
    let es : c.term-item.result.sort ≡ sort_at c.args.u.now.terms c.each.p = ap (λ (g : Ground). g.sort) e in
    let lt : c.each.p < length c.args.u.now.terms = subst (λ (ts : List Ground). c.each.p < length ts) c.as_slice-term-items.ensures c.each-test.true in
    let block = in_block c.args.sig.now c.args.copies c.args.u.now c.requires.universe c.requires.arranged (sort_at c.args.u.now.terms c.each.p) c.each.p (lt, refl) in
    rw (c.at.ensures 0, es, c.requires.sizes) (omega (arith, block.1))

pub each-preserved : goal.each-preserved
each-preserved c =
    let e = item-is c.as_slice-term-items.result.now c.args.u.now.terms c.each.p no_ground c.term-item.result c.term-item.is c.each-test.true c.as_slice-term-items.ensures in
    let es : c.term-item.result.sort ≡ sort_at c.args.u.now.terms c.each.p = ap (λ (g : Ground). g.sort) e in
    let lt : c.each.p < length c.args.u.now.terms = subst (λ (ts : List Ground). c.each.p < length ts) c.as_slice-term-items.ensures c.each-test.true in
    let more = row_start-more c.args.sig.now c.args.copies c.args.u.now c.each.p lt in
    let h = c.in-Some.ensures in
    let end = rw (c.each.invariant.end, c.at.ensures 0, es, c.requires.sizes) at h.1 in
    record {
      starts = rw (c.in_ok-push.ensures.items, c.each.invariant.starts, c.each.invariant.end) (sym (map-range_with_len_more (row_start c.args.sig.now c.args.copies c.args.u.now) 0 c.each.p c.each.p (omega arith)));
      end = end ∙ sym more;
    }

pub returns-clause-end : goal.returns-clause-end
returns-clause-end c =
    let e : c.each.p ≡ length c.args.u.now.terms = omega (arith, ap length c.as_slice-term-items.ensures) in
    c.each.invariant.end ∙ ap (row_start c.args.sig.now c.args.copies c.args.u.now) e ∙ row_start-all c.args.sig.now c.args.copies c.args.u.now
