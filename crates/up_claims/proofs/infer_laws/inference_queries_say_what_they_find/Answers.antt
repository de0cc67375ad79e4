use Rattle.up_claims.proofs.InferLemmas.{asks-seed, asks-root, asks-before}
use Rattle.up_claims.proofs.infer_laws.inference_queries_say_what_they_find.Goals as goal

pub returns-clause-seed : goal.returns-clause-seed
returns-clause-seed c = asks-seed

pub returns-clause-root : goal.returns-clause-root
returns-clause-root c = asks-root

pub returns-clause-before : goal.returns-clause-before
returns-clause-before c = asks-before
