use Rattle.fo_core.proofs.Binders.{all_over-from, all_over-to, some_over-from, some_over-to}
use Rattle.fo_core.proofs.laws.quantifiers_range_over_elements.Goals as goal

pub returns-clause-all : goal.returns-clause-all
returns-clause-all c sig w d ss f vs = (all_over-from sig w d ss f vs, all_over-to sig w d ss f vs)

pub returns-clause-some : goal.returns-clause-some
returns-clause-some c sig w d ss f vs = (some_over-from sig w d ss f vs, λ t. some_over-to sig w d ss f vs t.0 t.1 t.2)
