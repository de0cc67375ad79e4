use Rattle.prop_check.proofs.Views.{merged_for}
use Rattle.prop_check.proofs.checked.Checked.clauses.Goals as goal

pub returns-clause-merged : goal.returns-clause-merged
returns-clause-merged c = merged_for _ _ _ _ _ _ c.self.invariant.0.marked c.as_slice.ensures.value c.self.view_is
