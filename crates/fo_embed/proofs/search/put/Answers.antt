use Rattle.std.proofs.Common.{◌≡◌, ◌∙◌, ◌++◌, ◌∷◌, ℕ, List, [], ◌<◌, length, get_or, sym, ap, subst}
use Rattle.std.proofs.lemmas.List.{get_or_default}
use Rattle.std.specs.Prelude.{slice_index}
use Rattle.fo_core.proofs.Answered.{false_from}
use Rattle.fo_embed.specs.Placing.{images_of, with_image, IsPart}
use Rattle.fo_embed.proofs.Putting.{part-more, none-twice, none-agree, begun-more, put-back, taken-back, new-image}
use Rattle.fo_embed.proofs.search.put.Goals as goal

pub returns-then-is_among-clause-none : goal.returns-then-is_among-clause-none
returns-then-is_among-clause-none c = λ _.
    let found = c.is_among.ensures.0 c.if-is_among.true in
    let items : c.as_slice.result.now ≡ images_of c.args.maps.now c.args.sort = c.as_slice.ensures ∙ get_or_default c.args.maps.now c.args.sort c.index-maps-sort.result [] c.requires.within in
    let lt : found.0 < length (images_of c.args.maps.now c.args.sort) = subst (λ (xs : List ℕ). found.0 < length xs) items found.1 in
    let is : slice_index (images_of c.args.maps.now c.args.sort) found.0 ≡ c.args.image = sym (ap (λ (xs : List ℕ). get_or xs found.0 0) items) ∙ get_or_default c.as_slice.result.now found.0 0 c.args.image found.1 ∙ found.2 in
    none-twice c.args.states.now.sig.now c.args.states.now.from.now c.args.states.now.from_copy c.args.states.now.to.now c.args.states.now.to_copy c.requires.compared c.args.maps.now c.args.sort c.requires.begun c.requires.within c.requires.more found.0 c.args.image lt is

pub all_agree-requires-clause-part : goal.all_agree-requires-clause-part
all_agree-requires-clause-part c =
    let pushed : c.push.new.self ≡ images_of c.args.maps.now c.args.sort ++ c.args.image ∷ [] = c.in_ok-push.ensures.ok ∙ ap (λ (xs : List ℕ). xs ++ c.args.image ∷ []) (get_or_default c.args.maps.now c.args.sort c.index-maps-sort-2.result [] c.requires.within) in
    let part : IsPart c.args.states.now.from.now.sizes c.args.states.now.to.now.sizes (with_image c.args.maps.now c.args.sort c.args.image) = part-more c.args.states.now.from.now.sizes c.args.states.now.to.now.sizes c.args.maps.now c.args.sort c.args.image c.requires.begun.part c.requires.within c.requires.more c.requires.in_range (new-image c.args.maps.now c.args.sort c.args.image c.as_slice.result.now (c.as_slice.ensures ∙ get_or_default c.args.maps.now c.args.sort c.index-maps-sort.result [] c.requires.within) (false_from c.is_among.result c.if-is_among.false c.is_among.ensures)) in
    rw pushed part

pub returns-then-all_agree-clause-begun : goal.returns-then-all_agree-clause-begun
returns-then-all_agree-clause-begun c = λ _.
    let pushed : c.push.new.self ≡ images_of c.args.maps.now c.args.sort ++ c.args.image ∷ [] = c.in_ok-push.ensures.ok ∙ ap (λ (xs : List ℕ). xs ++ c.args.image ∷ []) (get_or_default c.args.maps.now c.args.sort c.index-maps-sort-2.result [] c.requires.within) in
    let part : IsPart c.args.states.now.from.now.sizes c.args.states.now.to.now.sizes (with_image c.args.maps.now c.args.sort c.args.image) = part-more c.args.states.now.from.now.sizes c.args.states.now.to.now.sizes c.args.maps.now c.args.sort c.args.image c.requires.begun.part c.requires.within c.requires.more c.requires.in_range (new-image c.args.maps.now c.args.sort c.args.image c.as_slice.result.now (c.as_slice.ensures ∙ get_or_default c.args.maps.now c.args.sort c.index-maps-sort.result [] c.requires.within) (false_from c.is_among.result c.if-is_among.false c.is_among.ensures)) in
    rw pushed (begun-more c.args.states.now.sig.now c.args.states.now.from.now c.args.states.now.from_copy c.args.states.now.to.now c.args.states.now.to_copy c.requires.compared c.args.maps.now c.args.sort c.requires.begun c.requires.within c.requires.more c.args.image part (rw pushed at (c.all_agree.ensures.0 c.if-all_agree.true)))

pub returns-clause-same : goal.returns-clause-same
returns-clause-same c = λ _.
    let pushed : c.push.new.self ≡ images_of c.args.maps.now c.args.sort ++ c.args.image ∷ [] = c.in_ok-push.ensures.ok ∙ ap (λ (xs : List ℕ). xs ++ c.args.image ∷ []) (get_or_default c.args.maps.now c.args.sort c.index-maps-sort-2.result [] c.requires.within) in
    rw pushed (put-back c.args.maps.now c.args.sort c.take_last.new.list c.requires.within (rw pushed at c.take_last.ensures ∙ taken-back c.args.maps.now c.args.sort c.args.image c.index-maps-sort-3.result c.requires.within) c.args.image)

pub returns-clause-none : goal.returns-clause-none
returns-clause-none c = λ _.
    let pushed : c.push.new.self ≡ images_of c.args.maps.now c.args.sort ++ c.args.image ∷ [] = c.in_ok-push.ensures.ok ∙ ap (λ (xs : List ℕ). xs ++ c.args.image ∷ []) (get_or_default c.args.maps.now c.args.sort c.index-maps-sort-2.result [] c.requires.within) in
    let part : IsPart c.args.states.now.from.now.sizes c.args.states.now.to.now.sizes (with_image c.args.maps.now c.args.sort c.args.image) = part-more c.args.states.now.from.now.sizes c.args.states.now.to.now.sizes c.args.maps.now c.args.sort c.args.image c.requires.begun.part c.requires.within c.requires.more c.requires.in_range (new-image c.args.maps.now c.args.sort c.args.image c.as_slice.result.now (c.as_slice.ensures ∙ get_or_default c.args.maps.now c.args.sort c.index-maps-sort.result [] c.requires.within) (false_from c.is_among.result c.if-is_among.false c.is_among.ensures)) in
    none-agree c.args.states.now.sig.now c.args.states.now.from.now c.args.states.now.from_copy c.args.states.now.to.now c.args.states.now.to_copy c.requires.compared c.args.maps.now c.args.sort c.requires.begun c.requires.within c.requires.more c.args.image part (rw pushed at (false_from c.all_agree.result c.if-all_agree.false c.all_agree.ensures))
