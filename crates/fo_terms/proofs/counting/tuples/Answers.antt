use Rattle.std.proofs.Common.{◌*◌, take, get_or, sym, ap, ◌∙◌}
use Rattle.fo_core.specs.Weights.{power}
use Rattle.fo_core.specs.QueryWeight.{cut}
use Rattle.fo_terms.proofs.Cuts.{cut-mul_left}
use Rattle.fo_terms.proofs.Sums.{power-more}
use Rattle.fo_terms.proofs.counting.tuples.Goals as goal

pub each-preserved : goal.each-preserved
each-preserved c =
    let counts = c.args.counts.now in
    let sorts = c.args.sorts.now in
    let i = c.each.sort-index in
    let count = get_or counts (get_or sorts i 0) 0 in
    c.saturating_mul-product.ensures
    ∙ ap (λ n. cut (n * count)) c.each.invariant
    ∙ cut-mul_left (power counts (take i sorts)) count
    ∙ ap cut (sym (power-more counts sorts i c.each-test.true))
