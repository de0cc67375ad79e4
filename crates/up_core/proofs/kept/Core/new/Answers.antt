use Rattle.std.proofs.Common.{sym, subst}
use Rattle.up_claims.specs.Inferring.{CanInfer}
use Rattle.up_core.proofs.NextCores.{core-new}
use Rattle.up_core.proofs.kept.Core.new.Goals as goal

pub invariant_of-result : goal.invariant_of-result
invariant_of-result c =
    let sys = c.in_ok-copy.field-0 in
    let order = c.in_ok-copy-2.field-0 in
    let infer = subst (λ o. CanInfer sys o) (sym c.in_ok-copy-2.ensures) (subst (λ s. CanInfer s c.args.order.now) (sym c.in_ok-copy.ensures) c.requires.infer) in
    core-new sys order c.args.limits c.new.result c.in_ok-new.field-0 c.in_ok-new-2.field-0 infer c.requires.in_range c.new.ensures.items c.new.ensures.len c.in_ok-new.ensures.mirror c.in_ok-new.ensures.room c.in_ok-new-2.ensures
