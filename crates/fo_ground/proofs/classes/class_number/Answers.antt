use Rattle.std.proofs.Common.{sym, length, arith}
use Rattle.std.proofs.lemmas.List.Sums.{position_or_len_is}
use Rattle.prop_core.specs.Formula.{value_of}
use Rattle.fo_ground.specs.Layout.{same_by}
use Rattle.fo_ground.proofs.classes.class_number.Goals as goal

pub returns-then-values-same : goal.returns-then-values-same
returns-then-values-same c =
    sym (position_or_len_is (λ q. same_by c.args.u.now c.args.lay.now (value_of c.args.values.now) q c.args.p) c.args.heads.now c.each.i 0 (omega arith) c.each.invariant (λ _. rw c.same.ensures at c.if-values-same.true))

pub returns : goal.returns
returns c =
    sym (position_or_len_is (λ q. same_by c.args.u.now c.args.lay.now (value_of c.args.values.now) q c.args.p) c.args.heads.now (length c.args.heads.now) 0 (omega arith) (λ k lt. c.each.invariant k (omega arith)) (λ lt. absurd (omega arith)))
