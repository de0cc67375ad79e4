use Rattle.fo_core.proofs.AgreeLemmas.{truth-agrees}
use Rattle.fo_core.proofs.laws.truth_reads_named_copies.Goals as goal

pub returns : goal.returns
returns c = truth-agrees
