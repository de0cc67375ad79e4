use Rattle.std.proofs.Common.{◌*◌, get_or, ap, ◌∙◌}
use Rattle.std.specs.Prelude.{slice_index}
use Rattle.fo_core.specs.Weights.{power}
use Rattle.fo_core.specs.QueryWeight.{cut}
use Rattle.fo_terms.proofs.Cuts.{cut-mul_left}
use Rattle.fo_terms.proofs.Sums.{sum-more}
use Rattle.fo_terms.proofs.weighing.symbol_weight.Goals as goal

pub each-preserved : goal.each-preserved
each-preserved c =
    let counts = c.args.counts.now in
    let args = c.args.symbol.now.args in
    let sorts = c.as_slice-sort-items.result.now in
    let n = get_or counts (get_or sorts c.each.sort-index 0) 0 in
    let tuples = c.tuples-tuples.ensures ∙ ap (λ ss. cut (power counts ss)) c.as_slice.ensures in
    let here = c.saturating_mul.ensures ∙ ap (λ m. cut (m * n)) tuples ∙ cut-mul_left (power counts args) n in
    c.saturating_add-sum.ensures ∙ sum-more (λ a. power counts args * slice_index counts a) sorts c.each.sort-index 0 c.each.sum c.saturating_mul.result c.each-test.true c.each.invariant here
