use Rattle.std.proofs.Common.{◌∙◌, ap}
use Rattle.prop_check.specs.Kept.{Kept}
use Rattle.prop_core.proofs.Soundness.{refutation_sound}
use Rattle.prop_cdcl.proofs.Found.{refuted}
use Rattle.prop_cdcl.proofs.formula.refuted.Goals as goal

pub returns-then-add_by-clause-answer : goal.returns-then-add_by-clause-answer
returns-then-add_by-clause-answer c =
    let taken = c.add_by.ensures.taken c.if-add_by.true in
    let same = c.reserve.ensures.same in
    refuted _ _ _ _ _ _ _ _ c.into_added.ensures.within c.into_added.ensures.derived
    (ap (λ (k : Kept). k.vars) taken ∙ ap (λ (k : Kept). k.vars) same ∙ c.in_ok-follows_from_learnt.ensures.vars ∙ c.in_ok-checked.ensures.vars)
    (ap (λ (k : Kept). k.given) taken ∙ ap (λ (k : Kept). k.given) same ∙ c.in_ok-follows_from_learnt.ensures.given ∙ c.in_ok-checked.ensures.given)
    c.into_added.ensures.value
    (ap (λ (k : Kept). k.added) taken)
    c.new-last.ensures

pub returns-then-add_by-clause-exact : goal.returns-then-add_by-clause-exact
returns-then-add_by-clause-exact c =
    let taken = c.add_by.ensures.taken c.if-add_by.true in
    let same = c.reserve.ensures.same in (
      λ _. refutation_sound _ _ _ (
          refuted _ _ _ _ _ _ _ _ c.into_added.ensures.within c.into_added.ensures.derived
          (ap (λ (k : Kept). k.vars) taken ∙ ap (λ (k : Kept). k.vars) same ∙ c.in_ok-follows_from_learnt.ensures.vars ∙ c.in_ok-checked.ensures.vars)
          (ap (λ (k : Kept). k.given) taken ∙ ap (λ (k : Kept). k.given) same ∙ c.in_ok-follows_from_learnt.ensures.given ∙ c.in_ok-checked.ensures.given)
          c.into_added.ensures.value
          (ap (λ (k : Kept). k.added) taken)
          c.new-last.ensures),
      λ _. tt,
    )
