use Rattle.std.proofs.Common.{sym, subst}
use Rattle.fo_core.specs.Shift.{CanShift}
use Rattle.up_claims.proofs.UnrollLemmas.{can-step}
use Rattle.up_claims.proofs.unroll.add_steps.Goals as goal

pub shifted-requires : goal.shifted-requires
shifted-requires c =
    subst (CanShift c.args.sys.now.sig c.each.c) (sym c.each.invariant.transition)
    (can-step c.args.sys.now c.requires.sys c.each.c c.args.steps c.each-test.true c.requires.few)
