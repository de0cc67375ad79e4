use Rattle.fo_least.proofs.LeastLemmas.{least_world}
use Rattle.fo_least.proofs.LeastSettles.{least-sizes, least-values}
use Rattle.fo_least.proofs.laws.least_where_settled.Goals as goal

pub returns : goal.returns
returns c sig q w is sorted fits copies = (
  λ least. ((w, least.meets), least-sizes sig q is sorted w least, least-values sig q is sorted w least),
  λ h. least_world sig q w is sorted h.0 h.1 h.2 fits copies,
)
