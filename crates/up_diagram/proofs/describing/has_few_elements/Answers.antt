use Rattle.std.proofs.Common.{◌≡◌, ◌<◌, ◌^◌, ◌∙◌, ap, arith, sum}
use Rattle.std.proofs.lemmas.List.{take_all}
use Rattle.fo_core.proofs.Answered.{always}
use Rattle.up_diagram.proofs.describing.has_few_elements.Goals as goal

pub returns : goal.returns
returns c =
    let counted : c.each.count ≡ sum c.args.w.now.sizes =
    c.each.invariant.counted ∙ ap sum (take_all c.each.size-index c.as_slice-size-items.result.now (omega (arith, c.each-test.false)) ∙ c.as_slice-size-items.ensures) in
    let few : sum c.args.w.now.sizes < 2 ^ 32 = omega (arith, counted, c.each.invariant.few) in
    always (sum c.args.w.now.sizes < 2 ^ 32) few
