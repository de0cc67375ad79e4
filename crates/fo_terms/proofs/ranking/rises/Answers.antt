use Rattle.std.proofs.Common.{rules, arith, refl}
use Rattle.fo_norm.specs.Forms.{whole}
use Rattle.fo_terms.proofs.Rising.{rises-from}
use Rattle.fo_terms.proofs.ranking.rises.Goals as goal

pub returns : goal.returns
returns c =
    let S = whole c.args.sig.now c.args.form.now in
    (λ _. rises-from S c.args.order.now.numbers (search rules) (λ k lt. c.each.invariant.risen k (omega (arith, c.each.invariant.all))), λ _. refl)
