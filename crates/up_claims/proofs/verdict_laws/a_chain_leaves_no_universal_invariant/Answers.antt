use Rattle.up_claims.proofs.ChainLemmas.{chain-refutes}
use Rattle.up_claims.proofs.verdict_laws.a_chain_leaves_no_universal_invariant.Goals as goal

pub returns : goal.returns
returns c = λ sys links fs chain known. chain-refutes sys fs known links chain
