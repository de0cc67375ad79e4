use Rattle.std.proofs.Common.{◌∙◌, ap, replicate, true, arith}
use Rattle.prop_check.proofs.Sound.{sound_new, given_new, added_new}
use Rattle.prop_check.proofs.checked.Checked.new.Goals as goal

pub invariant_of-result : goal.invariant_of-result
invariant_of-result c = (
  sound_new _ _ _ _ _ _ _ _ _ _
      (c.into_vec-clauses.ensures ∙ c.in_ok-copy_clauses.ensures ∙ c.as_slice.ensures)
      (c.in_ok-marks.ensures ∙ ap (λ n. replicate n true) (c.len.ensures ∙ c.into_vec-clauses.result.ok.0))
      c.requires
      c.in_ok-root.ensures
      c.in_ok-values.ensures
      c.as_mut_slice.ensures.value
      c.as_slice-2.ensures.value
      c.settled.auto.root
      c.in_ok-root.root.ok.0
      c.in_ok-watches.ensures,
  record { clauses = omega arith; marks = omega arith },
)

pub returns-clause-given : goal.returns-clause-given
returns-clause-given c =
    given_new _ _ _
    (c.in_ok-marks.ensures ∙ ap (λ n. replicate n true) (c.len.ensures ∙ c.into_vec-clauses.result.ok.0))
    (c.into_vec-clauses.ensures ∙ c.in_ok-copy_clauses.ensures ∙ c.as_slice.ensures)

pub returns-clause-added : goal.returns-clause-added
returns-clause-added c =
    added_new _ _
    (c.in_ok-marks.ensures ∙ ap (λ n. replicate n true) (c.len.ensures ∙ c.into_vec-clauses.result.ok.0))
