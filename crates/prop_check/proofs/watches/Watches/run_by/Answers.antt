use Rattle.std.proofs.Common.{refl}
use Rattle.prop_check.proofs.Passing.{extends_itself, extends_more}
use Rattle.prop_check.proofs.watches.Watches.run_by.Goals as goal

pub loop-at-init : goal.loop-at-init
loop-at-init c = extends_itself _ _

pub loop-at-preserved : goal.loop-at-preserved
loop-at-preserved c = extends_more _ _ _ _ _ c.loop-at.invariant c.look.ensures.grows c.look.ensures.forced refl

pub returns-then-look-clause-forced : goal.returns-then-look-clause-forced
returns-then-look-clause-forced c = (extends_more _ _ _ _ _ c.loop-at.invariant c.look.ensures.grows c.look.ensures.forced refl).forced

pub returns-clause-forced : goal.returns-clause-forced
returns-clause-forced c = (extends_more _ _ _ _ _ c.loop-at.invariant c.run.ensures.grows c.run.ensures.forced refl).forced
