use Rattle.std.proofs.Common.{IfOk, sym, subst}
use Rattle.up_core.specs.Telling.{IsVerdictBy}
use Rattle.up_core.proofs.verdict.told_by.Goals as goal

pub returns-in-Bounded : goal.returns-in-Bounded
returns-in-Bounded c =
    subst (λ e. IfOk c.told_bounded.result (IsVerdictBy c.args.sig.now c.args.history.now c.args.state.now c.args.worker e)) (sym c.in-Bounded.is)
    (c.told_bounded.ensures c.args.sig.now c.args.worker)
