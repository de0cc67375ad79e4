use Rattle.std.proofs.Common.{ap, ◌∙◌}
use Rattle.fo_core.specs.declared.signature.Symbol.{Symbol}
use Rattle.fo_core.specs.QueryWeight.{cut, symbol_weight}
use Rattle.fo_terms.proofs.Sums.{sum-more}
use Rattle.fo_terms.proofs.weighing.symbols_weight.Goals as goal

pub each-preserved : goal.each-preserved
each-preserved c =
    let f = symbol_weight c.args.copies c.args.counts.now in
    let here = c.symbol_weight.ensures ∙ ap (λ (s : Symbol). cut (f s)) c.symbol-item.is in
    c.saturating_add-sum.ensures ∙ sum-more f c.args.symbols.now c.each.symbol-index c.symbol-item.result c.each.sum c.symbol_weight.result c.each-test.true c.each.invariant here
