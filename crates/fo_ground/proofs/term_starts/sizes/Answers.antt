use Rattle.std.proofs.Common.{◌≡◌, ◌+◌, ◌<◌, List, length, set, ap, ◌∙◌, arith, length-set}
use Rattle.std.specs.Prelude.{slice_index}
use Rattle.std.proofs.lemmas.List.{get_or_read}
use Rattle.fo_terms.specs.declared.terms.Ground.{Ground}
use Rattle.fo_terms.specs.Universe.{no_ground, sort_at}
use Rattle.fo_ground.proofs.StartSteps.{count-more, counted-all}
use Rattle.fo_ground.proofs.term_starts.sizes.Goals as goal

pub each-preserved : goal.each-preserved
each-preserved c =
    let ts = c.args.u.now.terms in
    let sizes = c.each.sizes.items in
    let p = c.each.term-index in
    let items = c.as_slice-term-items.ensures in
    let lt : p < length ts = omega (arith, ap length items, c.each-test.true) in
    let sort : c.term-item.result.sort ≡ sort_at ts p =
    ap (λ (g : Ground). g.sort) (get_or_read c.as_slice-term-items.result.now p c.term-item.result c.each-test.true c.term-item.is no_ground) ∙ ap (λ (gs : List Ground). sort_at gs p) items in
    let within : c.term-item.result.sort < length sizes = omega (arith, c.requires.universe.sorts p lt, c.each.invariant.len) in
    let value = get_or_read sizes c.term-item.result.sort c.index_mut.result.now within c.index_mut.ensures.value 0 in
    record {
      len = length-set sizes c.term-item.result.sort (c.index_mut.result.now + 1) ∙ c.each.invariant.len;
      each = λ s known.
          ap (λ v. slice_index (set sizes c.term-item.result.sort (v + 1)) s) value
          ∙ ap (λ t. slice_index (set sizes t (slice_index sizes t + 1)) s) sort
          ∙ count-more c.args.sig.now c.args.copies c.args.u.now c.requires.universe c.requires.arranged p lt sizes c.each.invariant.len c.each.invariant.each s known;
    }

pub returns : goal.returns
returns c = c.from_vec.ensures ∙ counted-all c.args.sig.now c.args.copies c.args.u.now c.requires.universe c.requires.arranged c.each.sizes.items c.each.term-index (omega (arith, ap length c.as_slice-term-items.ensures)) c.each.invariant.len c.each.invariant.each
