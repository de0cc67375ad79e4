use Rattle.up_cert.proofs.Judgements.{accepted-refutes}
use Rattle.up_cert.proofs.laws.an_accepted_chain_leaves_no_universal_invariant.Goals as goal

pub returns : goal.returns
returns c = accepted-refutes
