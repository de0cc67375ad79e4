use Rattle.std.proofs.Common.{◌∙◌, ap}
use Rattle.prop_check.specs.Kept.{Kept, added_of}
use Rattle.prop_check.proofs.Views.{within_added}
use Rattle.prop_check.proofs.checked.Checked.into_added.Goals as goal

pub returns-clause-within : goal.returns-clause-within
returns-clause-within c =
    within_added _ _ _ _ _ c.self.invariant.0.within
    (c.from_vec.ensures ∙ c.only_added.ensures ∙ ap (λ ms. added_of ms c.self.inside.clauses.items) c.as_slice.ensures.value)
    (ap (λ (k : Kept). k.vars) c.self.view_is)
