use Rattle.std.proofs.Common.{true, [], refl, ap, ◌∙◌}
use Rattle.fo_core.specs.declared.formula.Formula.{Formula}
use Rattle.fo_core.specs.Weights.{nodes}
use Rattle.fo_core.specs.QueryWeight.{cut}
use Rattle.fo_terms.proofs.Sums.{sum-more}
use Rattle.fo_terms.proofs.weighing.claim_nodes.Goals as goal

pub each-preserved : goal.each-preserved
each-preserved c =
    let f = λ (g : Formula). nodes c.args.counts.now true g [] in
    let here = c.nodes.ensures [] refl ∙ ap (λ (g : Formula). cut (f g)) c.claim-item.is in
    c.saturating_add-sum.ensures ∙ sum-more f c.args.claims.now c.each.claim-index c.claim-item.result c.each.sum c.nodes.result c.each-test.true c.each.invariant here
