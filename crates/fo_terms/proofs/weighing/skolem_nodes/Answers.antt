use Rattle.std.proofs.Common.{ap, ◌∙◌}
use Rattle.fo_core.specs.declared.signature.Symbol.{Symbol}
use Rattle.fo_core.specs.Weights.{power}
use Rattle.fo_core.specs.QueryWeight.{cut}
use Rattle.fo_terms.proofs.Sums.{sum-more}
use Rattle.fo_terms.proofs.weighing.skolem_nodes.Goals as goal

pub each-preserved : goal.each-preserved
each-preserved c =
    let counts = c.args.counts.now in
    let here = c.tuples.ensures ∙ ap (λ ss. cut (power counts ss)) c.as_slice.ensures ∙ ap (λ (s : Symbol). cut (power counts s.args)) c.symbol-item.is in
    c.saturating_add-sum.ensures
    ∙ sum-more (λ (s : Symbol). power counts s.args) c.args.skolems.now c.each.symbol-index c.symbol-item.result c.each.sum c.tuples.result c.each-test.true c.each.invariant here
