use Rattle.std.proofs.Common.{◌+◌, ◌*◌, get_or, ap, ◌∙◌}
use Rattle.fo_core.specs.QueryWeight.{cut, sort_weight}
use Rattle.fo_terms.proofs.Cuts.{cut-add, cut-add_right, cut-mul_left}
use Rattle.fo_terms.proofs.Sums.{sum-more}
use Rattle.fo_terms.proofs.weighing.sorts_weight.Goals as goal

pub each-preserved : goal.each-preserved
each-preserved c =
    let counts = c.args.counts.now in
    let n = get_or counts c.each.count-index 0 in
    let pairs = c.saturating_mul-pairs.ensures in
    let triples = c.saturating_mul-triples.ensures ∙ ap (λ m. cut (m * n)) pairs ∙ cut-mul_left (n * n) n in
    let more = c.saturating_add.ensures ∙ ap (λ m. cut (m + c.saturating_mul-triples.result)) pairs ∙ ap (λ m. cut (cut (n * n) + m)) triples ∙ cut-add (n * n) (n * n * n) in
    let here = c.saturating_add-in-each.ensures ∙ ap (λ m. cut (n + m)) more ∙ cut-add_right (n * n + n * n * n) n in
    c.saturating_add-sum.ensures ∙ sum-more sort_weight counts c.each.count-index 0 c.each.sum c.saturating_add-in-each.result c.each-test.true c.each.invariant here
