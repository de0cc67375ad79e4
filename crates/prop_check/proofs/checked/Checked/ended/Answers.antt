use Rattle.std.proofs.Common.{[], List, ◌∙◌, sym, ap, subst, refl}
use Rattle.std.specs.List.{Contains}
use Rattle.std.proofs.lemmas.Bool.{false≢true}
use Rattle.prop_core.specs.declared.lit.Lit.{Lit}
use Rattle.prop_core.specs.Formula.{MeetsAll}
use Rattle.prop_check.specs.Kept.{Kept, kept}
use Rattle.prop_check.proofs.Sound.{ended_sound, empty_at}
use Rattle.prop_check.proofs.Views.{same_clauses, none_kept}
use Rattle.prop_check.proofs.checked.Checked.ended.Goals as goal

pub returns-then-len-eq0-clause-empty : goal.returns-then-len-eq0-clause-empty
returns-then-len-eq0-clause-empty c = (
  λ _. (same_clauses _ _ _ _ c.self.invariant.0.marked c.deref-clause-items.ensures.value (ap kept c.self.view_is) []).0
      (empty_at _ _ _ c.loop-clause-test.true c.clause-item.is (sym c.len.ensures ∙ c.if-len-eq0.true)),
  λ _. refl,
)

pub returns-then-len-eq0-clause-sound : goal.returns-then-len-eq0-clause-sound
returns-then-len-eq0-clause-sound c = λ _ v meets.
    let P : List (List Lit) → Type 0 = λ cs. MeetsAll v cs in
    let Q : List (List Lit) → Type 0 = λ cs. Contains cs [] in
    ended_sound _ _ _ _ _ v c.self.invariant.0
    (subst Q c.deref-clause-items.ensures.value (empty_at _ _ _ c.loop-clause-test.true c.clause-item.is (sym c.len.ensures ∙ c.if-len-eq0.true)))
    (subst P (sym (ap (λ (k : Kept). k.given) c.self.view_is)) meets)

pub returns-clause-empty : goal.returns-clause-empty
returns-clause-empty c = (
  λ h. absurd (false≢true h),
  λ h. absurd (none_kept _ _ _ _ _ c.self.invariant.0.marked c.deref-clause-items.ensures.value (ap kept c.self.view_is) c.loop-clause-test.false c.loop-clause.invariant h),
)
