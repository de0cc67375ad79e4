use Rattle.fo_core.proofs.Binders.{all_over-sorted, some_over-sorted}
use Rattle.fo_core.proofs.laws.quantified_formulas_are_well_sorted.Goals as goal

pub returns-clause-all : goal.returns-clause-all
returns-clause-all c = all_over-sorted

pub returns-clause-some : goal.returns-clause-some
returns-clause-some c = some_over-sorted
