use Rattle.std.proofs.Common.{◌≡◌, ◌∙◌, ◌<◌, ◌-◌, ◌+◌, ℕ, List, [], length, ap, arith, rules, below_more}
use Rattle.std.specs.Prelude.{slice_index}
use Rattle.std.proofs.lemmas.List.{get_or_default}
use Rattle.fo_embed.specs.Placing.{images_of, with_image}
use Rattle.fo_embed.proofs.Putting.{is-first, next-sort, next-falls, none-with, first-with, put-back, taken-back}
use Rattle.fo_embed.proofs.search.+place.Goals as goal

pub returns-then-sort-maps-clause-found : goal.returns-then-sort-maps-clause-found
returns-then-sort-maps-clause-found t c = λ _. is-first c.args.states.now.sig.now c.args.states.now.from.now c.args.states.now.from_copy c.args.states.now.to.now c.args.states.now.to_copy c.requires.compared c.args.maps.now c.args.sort c.requires.begun c.if-sort-maps.true

pub place-requires : goal.place-requires
place-requires t c =
    let within : c.args.sort < length c.args.maps.now = omega (arith, c.if-sort-maps.false, c.requires.begun.sort) in
    let len : c.len.result ≡ length (images_of c.args.maps.now c.args.sort) = c.len.ensures ∙ ap length (get_or_default c.args.maps.now c.args.sort c.index-maps-sort.result [] within) in
    let size = c.at.ensures 0 in
    let full : length (images_of c.args.maps.now c.args.sort) ≡ slice_index c.args.states.now.from.now.sizes c.args.sort = omega (arith, len, size, c.if-len-at.true) in
    let falls = next-falls c.args.states.now.from.now.sizes (length c.args.maps.now) c.args.sort (length (images_of c.args.maps.now (c.args.sort + 1))) (slice_index c.args.states.now.from.now.sizes c.args.sort - length (images_of c.args.maps.now c.args.sort)) within in
    (search (rules, falls), (c.requires.compared, next-sort c.args.states.now.sig.now c.args.states.now.from.now c.args.states.now.from_copy c.args.states.now.to.now c.args.states.now.to_copy c.requires.compared c.args.maps.now c.args.sort c.requires.begun within full))

pub returns-then-branch-clause-found : goal.returns-then-branch-clause-found
returns-then-branch-clause-found t c = λ _.
    let within : c.args.sort < length c.args.maps.now = omega (arith, c.if-sort-maps.false, c.requires.begun.sort) in
    let len : c.len.result ≡ length (images_of c.args.maps.now c.args.sort) = c.len.ensures ∙ ap length (get_or_default c.args.maps.now c.args.sort c.index-maps-sort.result [] within) in
    let size = c.at.ensures 0 in
    let more : length (images_of c.args.maps.now c.args.sort) < slice_index c.args.states.now.from.now.sizes c.args.sort = omega (arith, len, size, c.if-len-at.false, c.requires.begun.part.some c.args.sort) in
    let put : c.put.new.maps ≡ with_image c.args.maps.now c.args.sort c.each.image = c.in_ok-put.ensures.put c.if-not-branch.false ∙ ap (λ (maps : List (List ℕ)). with_image maps c.args.sort c.each.image) c.each.invariant.same in
    first-with c.args.states.now.sig.now c.args.states.now.from.now c.args.states.now.from_copy c.args.states.now.to.now c.args.states.now.to_copy c.requires.compared c.args.maps.now c.args.sort c.requires.begun within more c.each.image c.place-in-each.new.maps c.each.invariant.before (rw put at (c.in_ok-place.ensures.found c.if-branch.true))

pub each-preserved : goal.each-preserved
each-preserved t c =
    let within : c.args.sort < length c.args.maps.now = omega (arith, c.if-sort-maps.false, c.requires.begun.sort) in
    let len : c.len.result ≡ length (images_of c.args.maps.now c.args.sort) = c.len.ensures ∙ ap length (get_or_default c.args.maps.now c.args.sort c.index-maps-sort.result [] within) in
    let size = c.at.ensures 0 in
    let more : length (images_of c.args.maps.now c.args.sort) < slice_index c.args.states.now.from.now.sizes c.args.sort = omega (arith, len, size, c.if-len-at.false, c.requires.begun.part.some c.args.sort) in
    let put : c.put.new.maps ≡ with_image c.args.maps.now c.args.sort c.each.image = c.in_ok-put.ensures.put c.if-not-branch.false ∙ ap (λ (maps : List (List ℕ)). with_image maps c.args.sort c.each.image) c.each.invariant.same in
    let kept : c.place-in-each.new.maps ≡ with_image c.args.maps.now c.args.sort c.each.image = c.in_ok-place.ensures.same c.if-branch.false ∙ put in
    let taken = rw kept at c.take_last.ensures ∙ taken-back c.args.maps.now c.args.sort c.each.image c.index-maps-sort-in-each.result within in
    record {
      same = rw kept (put-back c.args.maps.now c.args.sort c.take_last.new.list within taken c.each.image);
      before = below_more _ _ c.each.invariant.before (none-with c.args.states.now.sig.now c.args.states.now.from.now c.args.states.now.from_copy c.args.states.now.to.now c.args.states.now.to_copy c.requires.compared c.args.maps.now c.args.sort c.requires.begun within more c.each.image (rw put at (c.in_ok-place.ensures.none c.if-branch.false)));
    }
