use Rattle.std.proofs.Common.{ap}
use Rattle.prop_check.specs.Kept.{Kept, kept}
use Rattle.prop_check.proofs.Sound.{exact_for, implied_by_given}
use Rattle.prop_check.proofs.checked.Checked.follows_by.Goals as goal

pub returns-clause-exact : goal.returns-clause-exact
returns-clause-exact c =
    exact_for _ _ _ _ _ _ _ c.self.invariant.0.marked c.follows.ensures c.as_slice-2.ensures.value (ap kept c.self.view_is) c.as_slice-3.ensures

pub returns-clause-sound : goal.returns-clause-sound
returns-clause-sound c = λ is v meets.
    implied_by_given _ _ _ _ _ _ _ _ _ _ c.self.invariant.0 c.follows.ensures c.as_slice-2.ensures.value c.as_slice-3.ensures (ap (λ (k : Kept). k.given) c.self.view_is) is v meets
