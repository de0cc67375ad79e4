use Rattle.up_claims.proofs.InferLemmas.{made-seed}
use Rattle.up_claims.proofs.infer.seed_query.Goals as goal

pub returns-clause-sorted : goal.returns-clause-sorted
returns-clause-sorted c = (made-seed c.args.sys.now c.requires.sys c.in_ok-claims_of_seed.field-0 c.args.frame.now c.args.avoid.now c.requires.frame c.requires.avoid c.in_ok-claims_of_seed.ensures).sorted

pub returns-clause-meaning : goal.returns-clause-meaning
returns-clause-meaning c = (made-seed c.args.sys.now c.requires.sys c.in_ok-claims_of_seed.field-0 c.args.frame.now c.args.avoid.now c.requires.frame c.requires.avoid c.in_ok-claims_of_seed.ensures).meaning

pub returns-clause-rises : goal.returns-clause-rises
returns-clause-rises c = (made-seed c.args.sys.now c.requires.sys c.in_ok-claims_of_seed.field-0 c.args.frame.now c.args.avoid.now c.requires.frame c.requires.avoid c.in_ok-claims_of_seed.ensures).rises
