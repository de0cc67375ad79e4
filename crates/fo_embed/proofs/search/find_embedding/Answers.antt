use Rattle.std.proofs.Common.{◌≡◌, ◌∙◌, length, drop, sym, ap, subst, arith}
use Rattle.std.proofs.lemmas.List.{take_at}
use Rattle.fo_core.proofs.Answered.{false_from}
use Rattle.fo_embed.specs.Compared.{IsFirstEmbedding}
use Rattle.fo_embed.specs.Searching.{IsFirstBehind}
use Rattle.fo_embed.proofs.Begun.{begin-length}
use Rattle.fo_embed.proofs.Putting.{none-disagree, none-at-all, first-of-all}
use Rattle.fo_embed.proofs.Sizes.{none-larger}
use Rattle.fo_embed.proofs.search.find_embedding.Goals as goal

pub returns-then-not-are_no_larger : goal.returns-then-not-are_no_larger
returns-then-not-are_no_larger c maps embeds =
    let larger = rw (c.as_slice.ensures, c.as_slice-2.ensures) at (false_from c.are_no_larger.result c.if-not-are_no_larger.true c.are_no_larger.ensures) in
    larger (none-larger c.args.s.now.sizes c.args.t.now.sizes maps embeds.injections)

pub returns-then-not-all_agree : goal.returns-then-not-all_agree
returns-then-not-all_agree c =
    let sorts : length c.each.maps.items ≡ length c.args.s.now.sizes = omega (arith, c.each.invariant.count, c.each-test.false, c.len-i-end.ensures, c.each.auto._i-end) in
    none-disagree c.args.sig.now c.args.s.now c.args.sc c.args.t.now c.args.tc c.requires c.each.maps.items sorts c.each.invariant.empty (rw c.as_slice-3.ensures.value at (false_from c.all_agree.result c.if-not-all_agree.true c.all_agree.ensures))

pub returns-then-not-branch : goal.returns-then-not-branch
returns-then-not-branch c =
    let sorts : length c.each.maps.items ≡ length c.args.s.now.sizes = omega (arith, c.each.invariant.count, c.each-test.false, c.len-i-end.ensures, c.each.auto._i-end) in
    none-at-all c.args.sig.now c.args.s.now c.args.sc c.args.t.now c.args.tc c.requires c.each.maps.items sorts c.each.invariant.empty (rw c.as_mut_slice.ensures.value at (c.in_ok-place.ensures.none c.if-not-branch.true))

pub returns : goal.returns
returns c =
    let sorts : length c.each.maps.items ≡ length c.args.s.now.sizes = omega (arith, c.each.invariant.count, c.each-test.false, c.len-i-end.ensures, c.each.auto._i-end) in
    let found : IsFirstBehind c.args.sig.now c.args.s.now c.args.sc c.args.t.now c.args.tc c.each.maps.items c.place.new.maps = rw c.as_mut_slice.ensures.value at (c.in_ok-place.ensures.found c.if-not-branch.false) in
    let count : length c.place.new.maps ≡ c.each.maps.len = begin-length c.each.maps.items c.place.new.maps found.begins ∙ sym (ap length c.as_slice-3.ensures.value) ∙ c.as_slice-3.ensures.len in
    let is : c.from_vec.result ≡ c.place.new.maps = c.from_vec.ensures ∙ take_at c.place.new.maps (drop (length c.place.new.maps) c.each.maps.items) c.each.maps.len count in
    subst (IsFirstEmbedding c.args.sig.now c.args.s.now c.args.sc c.args.t.now c.args.tc) (sym is) (first-of-all c.args.sig.now c.args.s.now c.args.sc c.args.t.now c.args.tc c.requires c.each.maps.items sorts c.each.invariant.empty c.place.new.maps found)
