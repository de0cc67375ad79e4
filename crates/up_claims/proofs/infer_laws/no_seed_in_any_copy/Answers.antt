use Rattle.up_claims.proofs.BlockedLemmas.{seed-by-query}
use Rattle.up_claims.proofs.infer_laws.no_seed_in_any_copy.Goals as goal

pub returns : goal.returns
returns c sys frame avoid is framed avoided = seed-by-query sys is frame avoid framed avoided
