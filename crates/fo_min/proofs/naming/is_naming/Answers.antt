use Rattle.std.proofs.Common.{below_more, ◌≡◌, ◌∙◌, arith, []}
use Rattle.std.proofs.lemmas.List.{get_or_default}
use Rattle.std.specs.Prelude.{slice_index, slice_index_or}
use Rattle.fo_min.specs.Known.{IsSortNamed}
use Rattle.fo_min.proofs.NamingLemmas.{sort-named}
use Rattle.fo_min.proofs.naming.is_naming.Goals as goal

pub each-preserved : goal.each-preserved
each-preserved c =
    let own : c.as_slice.result.now ≡ slice_index_or c.args.names.now c.each.s [] = c.as_slice.ensures ∙ c.index-names-s.is ∙ get_or_default c.args.names.now c.each.s c.index-names-s.result [] (omega (arith, c.each-test.true, c.if-names-sizes.false)) in
    below_more (λ t. IsSortNamed (slice_index c.args.sizes.now t) (slice_index c.args.world.now.sizes t) (slice_index_or c.args.names.now t []))
    c.each.s c.each.invariant
    (sort-named (slice_index c.args.sizes.now c.each.s) c.each.s c.as_slice-most.result.now c.args.world.now.sizes c.as_slice.result.now c.args.names.now
    c.as_slice-most.ensures own (c.is_sort_named.ensures c.if-not-is_sort_named.false))
