use Rattle.std.proofs.Common.{◌≡◌, ◌-◌, ◌<◌, ◌≤◌, ℕ, List, length, get_or, take, drop, subst, arith, rules, below_more}
use Rattle.std.proofs.lemmas.Bool.Decides.{nat_tests}
use Rattle.std.proofs.lemmas.Grind.{common_steps}
use Rattle.fo_core.proofs.Answered.{false_from}
use Rattle.fo_embed.specs.Placing.{images_of}
use Rattle.fo_embed.proofs.Walking.{walk-more, walk-sort, next-here, next-there, items-are, agree-none, agree-false, agree-true, rest_of}
use Rattle.fo_embed.proofs.agree.+agree_from.Goals as goal

pub returns-then-is_empty : goal.returns-then-is_empty
returns-then-is_empty t c =
    let none : length c.args.sorts.now ≡ 0 = grind (arith, nat_tests) in
    agree-none c.args.states.now.from.now c.args.states.now.to.now c.args.maps.now c.args.tables.now.symbol.now c.args.tables.now.here.now c.args.tables.now.there.now c.args.sorts.now c.args.at c.args.to c.is_kept.result none (rw (c.at.ensures 0, c.at-then-is_empty.ensures 0) at c.is_kept.ensures)

pub overflow_mul-next : goal.overflow_mul-next
overflow_mul-next t c =
    let some : 0 < length c.args.sorts.now = grind (arith, nat_tests) in
    let known = walk-sort c.args.states.now.from.now c.args.states.now.to.now c.args.maps.now c.args.tables.now.symbol.now c.args.sorts.now some c.requires.walk in
    let items = items-are c.args.states.now.from.now c.args.states.now.to.now c.args.maps.now c.args.tables.now.symbol.now (get_or c.args.sorts.now 0 0) c.as_slice-image-items.result.now c.index-maps-sort.result (omega (arith, known, c.requires.walk.part.one_each)) c.as_slice-image-items.ensures c.index-maps-sort.is in
    let lt : c.each.x < length (images_of c.args.maps.now (get_or c.args.sorts.now 0 0)) = subst (λ (xs : List ℕ). c.each.x < length xs) items c.each-test.true in
    let here = next-here c.args.states.now.from.now c.args.states.now.to.now c.args.maps.now c.args.tables.now.symbol.now c.args.sorts.now c.args.at c.each.x c.args.tables.now.here.now some c.requires.walk c.requires.here lt in
    rw (c.at-2.ensures 0) (omega (arith, here.1, c.len-cells.ensures, c.len-cells.type_inv))

pub overflow_add-next : goal.overflow_add-next
overflow_add-next t c =
    let some : 0 < length c.args.sorts.now = grind (arith, nat_tests) in
    let known = walk-sort c.args.states.now.from.now c.args.states.now.to.now c.args.maps.now c.args.tables.now.symbol.now c.args.sorts.now some c.requires.walk in
    let items = items-are c.args.states.now.from.now c.args.states.now.to.now c.args.maps.now c.args.tables.now.symbol.now (get_or c.args.sorts.now 0 0) c.as_slice-image-items.result.now c.index-maps-sort.result (omega (arith, known, c.requires.walk.part.one_each)) c.as_slice-image-items.ensures c.index-maps-sort.is in
    let lt : c.each.x < length (images_of c.args.maps.now (get_or c.args.sorts.now 0 0)) = subst (λ (xs : List ℕ). c.each.x < length xs) items c.each-test.true in
    let here = next-here c.args.states.now.from.now c.args.states.now.to.now c.args.maps.now c.args.tables.now.symbol.now c.args.sorts.now c.args.at c.each.x c.args.tables.now.here.now some c.requires.walk c.requires.here lt in
    rw (c.at-2.ensures 0) (omega (arith, here.1, c.len-cells.ensures, c.len-cells.type_inv))

pub overflow_mul-next_to : goal.overflow_mul-next_to
overflow_mul-next_to t c =
    let some : 0 < length c.args.sorts.now = grind (arith, nat_tests) in
    let known = walk-sort c.args.states.now.from.now c.args.states.now.to.now c.args.maps.now c.args.tables.now.symbol.now c.args.sorts.now some c.requires.walk in
    let items = items-are c.args.states.now.from.now c.args.states.now.to.now c.args.maps.now c.args.tables.now.symbol.now (get_or c.args.sorts.now 0 0) c.as_slice-image-items.result.now c.index-maps-sort.result (omega (arith, known, c.requires.walk.part.one_each)) c.as_slice-image-items.ensures c.index-maps-sort.is in
    let lt : c.each.x < length (images_of c.args.maps.now (get_or c.args.sorts.now 0 0)) = subst (λ (xs : List ℕ). c.each.x < length xs) items c.each-test.true in
    let there = next-there c.args.states.now.from.now c.args.states.now.to.now c.args.maps.now c.args.tables.now.symbol.now c.args.sorts.now c.args.to c.each.x c.args.tables.now.there.now some c.requires.walk c.requires.there lt in
    rw (c.at-3.ensures 0) (omega (arith, there.1, c.len-cells_to.ensures, c.len-cells_to.type_inv))

pub overflow_add-next_to : goal.overflow_add-next_to
overflow_add-next_to t c =
    let some : 0 < length c.args.sorts.now = grind (arith, nat_tests) in
    let known = walk-sort c.args.states.now.from.now c.args.states.now.to.now c.args.maps.now c.args.tables.now.symbol.now c.args.sorts.now some c.requires.walk in
    let items = items-are c.args.states.now.from.now c.args.states.now.to.now c.args.maps.now c.args.tables.now.symbol.now (get_or c.args.sorts.now 0 0) c.as_slice-image-items.result.now c.index-maps-sort.result (omega (arith, known, c.requires.walk.part.one_each)) c.as_slice-image-items.ensures c.index-maps-sort.is in
    let lt : c.each.x < length (images_of c.args.maps.now (get_or c.args.sorts.now 0 0)) = subst (λ (xs : List ℕ). c.each.x < length xs) items c.each-test.true in
    let there = next-there c.args.states.now.from.now c.args.states.now.to.now c.args.maps.now c.args.tables.now.symbol.now c.args.sorts.now c.args.to c.each.x c.args.tables.now.there.now some c.requires.walk c.requires.there lt in
    rw (c.at-3.ensures 0, items) (omega (arith, there.1, c.len-cells_to.ensures, c.len-cells_to.type_inv))

pub agree_from-requires : goal.agree_from-requires
agree_from-requires t c =
    let some : 0 < length c.args.sorts.now = grind (arith, nat_tests) in
    let known = walk-sort c.args.states.now.from.now c.args.states.now.to.now c.args.maps.now c.args.tables.now.symbol.now c.args.sorts.now some c.requires.walk in
    let items = items-are c.args.states.now.from.now c.args.states.now.to.now c.args.maps.now c.args.tables.now.symbol.now (get_or c.args.sorts.now 0 0) c.as_slice-image-items.result.now c.index-maps-sort.result (omega (arith, known, c.requires.walk.part.one_each)) c.as_slice-image-items.ensures c.index-maps-sort.is in
    let lt : c.each.x < length (images_of c.args.maps.now (get_or c.args.sorts.now 0 0)) = subst (λ (xs : List ℕ). c.each.x < length xs) items c.each-test.true in
    let here = next-here c.args.states.now.from.now c.args.states.now.to.now c.args.maps.now c.args.tables.now.symbol.now c.args.sorts.now c.args.at c.each.x c.args.tables.now.here.now some c.requires.walk c.requires.here lt in
    let there = next-there c.args.states.now.from.now c.args.states.now.to.now c.args.maps.now c.args.tables.now.symbol.now c.args.sorts.now c.args.to c.each.x c.args.tables.now.there.now some c.requires.walk c.requires.there lt in
    let shorter : length (take (length c.args.sorts.now - 1) (drop 1 c.args.sorts.now)) < length c.args.sorts.now = grind (arith, common_steps) in
    let walk = walk-more c.args.states.now.from.now c.args.states.now.to.now c.args.maps.now c.args.tables.now.symbol.now c.args.sorts.now some c.requires.walk in
    (search (rules, shorter), rw (rest_of, c.at-2.ensures 0, c.at-3.ensures 0, items) (walk, (here.0, there.0)))

pub returns-then-not-agree_from : goal.returns-then-not-agree_from
returns-then-not-agree_from t c =
    let some : 0 < length c.args.sorts.now = grind (arith, nat_tests) in
    let known = walk-sort c.args.states.now.from.now c.args.states.now.to.now c.args.maps.now c.args.tables.now.symbol.now c.args.sorts.now some c.requires.walk in
    let items = items-are c.args.states.now.from.now c.args.states.now.to.now c.args.maps.now c.args.tables.now.symbol.now (get_or c.args.sorts.now 0 0) c.as_slice-image-items.result.now c.index-maps-sort.result (omega (arith, known, c.requires.walk.part.one_each)) c.as_slice-image-items.ensures c.index-maps-sort.is in
    let lt : c.each.x < length (images_of c.args.maps.now (get_or c.args.sorts.now 0 0)) = subst (λ (xs : List ℕ). c.each.x < length xs) items c.each-test.true in
    let fails = rw (rest_of, c.at-2.ensures 0, c.at-3.ensures 0, items) at (false_from c.agree_from.result c.if-not-agree_from.true c.agree_from.ensures) in
    agree-false c.args.states.now.from.now c.args.states.now.to.now c.args.maps.now c.args.tables.now.symbol.now c.args.tables.now.here.now c.args.tables.now.there.now c.args.sorts.now c.args.at c.args.to c.each.x some lt fails

pub each-preserved : goal.each-preserved
each-preserved t c =
    let some : 0 < length c.args.sorts.now = grind (arith, nat_tests) in
    let known = walk-sort c.args.states.now.from.now c.args.states.now.to.now c.args.maps.now c.args.tables.now.symbol.now c.args.sorts.now some c.requires.walk in
    let items = items-are c.args.states.now.from.now c.args.states.now.to.now c.args.maps.now c.args.tables.now.symbol.now (get_or c.args.sorts.now 0 0) c.as_slice-image-items.result.now c.index-maps-sort.result (omega (arith, known, c.requires.walk.part.one_each)) c.as_slice-image-items.ensures c.index-maps-sort.is in
    let agrees = rw (rest_of, items) at (c.agree_from.ensures.0 c.if-not-agree_from.false) in
    below_more _ _ c.each.invariant agrees

pub returns : goal.returns
returns t c =
    let some : 0 < length c.args.sorts.now = grind (arith, nat_tests) in
    let known = walk-sort c.args.states.now.from.now c.args.states.now.to.now c.args.maps.now c.args.tables.now.symbol.now c.args.sorts.now some c.requires.walk in
    let items = items-are c.args.states.now.from.now c.args.states.now.to.now c.args.maps.now c.args.tables.now.symbol.now (get_or c.args.sorts.now 0 0) c.as_slice-image-items.result.now c.index-maps-sort.result (omega (arith, known, c.requires.walk.part.one_each)) c.as_slice-image-items.ensures c.index-maps-sort.is in
    let le : length (images_of c.args.maps.now (get_or c.args.sorts.now 0 0)) ≤ c.each.x = subst (λ (xs : List ℕ). length xs ≤ c.each.x) items c.each-test.false in
    agree-true c.args.states.now.from.now c.args.states.now.to.now c.args.maps.now c.args.tables.now.symbol.now c.args.tables.now.here.now c.args.tables.now.there.now c.args.sorts.now c.args.at c.args.to c.each.x some le (rw (c.at-2.ensures 0, c.at-3.ensures 0) at c.each.invariant)
