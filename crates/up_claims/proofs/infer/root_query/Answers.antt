use Rattle.up_claims.proofs.InferLemmas.{made-root}
use Rattle.up_claims.proofs.infer.root_query.Goals as goal

pub returns-clause-sorted : goal.returns-clause-sorted
returns-clause-sorted c = (made-root c.args.sys.now c.requires.sys c.in_ok-claims_of_root.field-0 c.args.cube.now c.requires.cube c.in_ok-claims_of_root.ensures).sorted

pub returns-clause-meaning : goal.returns-clause-meaning
returns-clause-meaning c = (made-root c.args.sys.now c.requires.sys c.in_ok-claims_of_root.field-0 c.args.cube.now c.requires.cube c.in_ok-claims_of_root.ensures).meaning

pub returns-clause-rises : goal.returns-clause-rises
returns-clause-rises c = (made-root c.args.sys.now c.requires.sys c.in_ok-claims_of_root.field-0 c.args.cube.now c.requires.cube c.in_ok-claims_of_root.ensures).rises
