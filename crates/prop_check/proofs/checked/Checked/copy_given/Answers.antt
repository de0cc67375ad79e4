use Rattle.std.proofs.Common.{ap}
use Rattle.prop_check.specs.Kept.{Kept}
use Rattle.prop_check.proofs.Views.{within_given, within_for}
use Rattle.prop_check.proofs.Marks.{copied, passed_over}
use Rattle.prop_check.proofs.checked.Checked.copy_given.Goals as goal
use Rattle.prop_check.proofs.checked.Checked.copy_given.Goals.{then-index+in_ok-copy+in_ok-push, else-index}

pub returns-in_err-copy-clause-within : goal.returns-in_err-copy-clause-within
returns-in_err-copy-clause-within c = within_for _ _ _ (within_given _ _ _ _ c.self.invariant.0.within (ap (λ (k : Kept). k.given) c.self.view_is)) (ap (λ (k : Kept). k.vars) c.self.view_is)

pub returns-in_err-push-clause-within : goal.returns-in_err-push-clause-within
returns-in_err-push-clause-within c = within_for _ _ _ (within_given _ _ _ _ c.self.invariant.0.within (ap (λ (k : Kept). k.given) c.self.view_is)) (ap (λ (k : Kept). k.vars) c.self.view_is)

pub returns-clause-within : goal.returns-clause-within
returns-clause-within c = within_for _ _ _ (within_given _ _ _ _ c.self.invariant.0.within (ap (λ (k : Kept). k.given) c.self.view_is)) (ap (λ (k : Kept). k.vars) c.self.view_is)

pub loop-at-preserved : goal.loop-at-preserved
loop-at-preserved c =
    elim c.if-index.branch [
      | then-index+in_ok-copy+in_ok-push w ↦ rw w.copies-is (copied _ _ _ _ _ _ c.self.invariant.0.marked c.deref-clause-items.ensures.value c.loop-at-test.true c.clause-item.is c.index.ensures _ c.loop-at.invariant _ _ w.if-index.true w.in_ok-push.ensures.items w.in_ok-copy.ensures)
      | else-index w ↦ rw w.copies-is (passed_over _ _ _ _ _ _ c.self.invariant.0.marked c.deref-clause-items.ensures.value c.loop-at-test.true c.clause-item.is c.index.ensures _ c.loop-at.invariant w.if-index.false)
    ]
