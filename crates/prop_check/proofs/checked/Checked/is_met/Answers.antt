use Rattle.std.proofs.Common.{◌∙◌, sym, ap, refl}
use Rattle.std.proofs.lemmas.Bool.{false≢true}
use Rattle.prop_check.specs.Kept.{Kept}
use Rattle.prop_check.proofs.Views.{not_met, met_more, all_met}
use Rattle.prop_check.proofs.checked.Checked.is_met.Goals as goal

pub returns-then-not-is_met_if : goal.returns-then-not-is_met_if
returns-then-not-is_met_if c = (
  λ h. absurd (false≢true h),
  λ meets. absurd (not_met _ _ _ _ _ _ _ _ c.self.invariant.0.marked c.deref-clause-items.ensures.value c.loop-at-test.true c.clause-item.is c.index.ensures (ap (λ (k : Kept). k.given) c.self.view_is)
      (λ f. false≢true (sym c.if-not-is_met_if.true ∙ c.is_met_if.ensures.1 f)) meets),
)

pub loop-at-preserved : goal.loop-at-preserved
loop-at-preserved c =
    met_more _ _ _ _ _ _ _ c.self.invariant.0.marked c.deref-clause-items.ensures.value c.loop-at-test.true c.clause-item.is c.index.ensures (c.is_met_if.ensures.0 c.if-not-is_met_if.false) c.loop-at.invariant

pub returns : goal.returns
returns c = (
  λ _. all_met _ _ _ _ _ _ c.deref-clause-items.ensures.value c.loop-at-test.false (ap (λ (k : Kept). k.given) c.self.view_is) c.loop-at.invariant,
  λ _. refl,
)
