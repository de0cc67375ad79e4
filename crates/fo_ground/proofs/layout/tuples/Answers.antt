use Rattle.std.proofs.Common.{◌∙◌, ◌*◌, ◌+◌, sym, ap, drop}
use Rattle.fo_core.specs.Weights.{power}
use Rattle.fo_ground.proofs.StartLemmas.{power-step}
use Rattle.fo_ground.proofs.layout.tuples.Goals as goal

pub each-preserved : goal.each-preserved
each-preserved c =
    let step = power-step c.args.sizes.now c.args.sorts.now c.each.sort-index c.each.product c.each-test.true in
    let h = c.in-Some.ensures in
    ap (λ n. n * power c.args.sizes.now (drop (c.each.sort-index + 1) c.args.sorts.now)) h.1 ∙ sym step ∙ c.each.invariant
