use Rattle.std.proofs.Common.{◌∙◌}
use Rattle.fo_terms.specs.Blocks.{copy_block}
use Rattle.fo_terms.proofs.ListLemmas.{flat-range_more}
use Rattle.fo_terms.proofs.build.push_function.Goals as goal

pub each-preserved : goal.each-preserved
each-preserved c =
    c.in_ok-push_copy.ensures
    ∙ flat-range_more c.args.terms.now c.each.terms (copy_block c.args.sizes.now.firsts c.args.sizes.now.counts c.args.number c.args.symbol.now) c.each.copy c.each.invariant
