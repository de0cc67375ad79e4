use Rattle.std.specs.Prelude.{option_map}
use Rattle.up_claims.proofs.InferLemmas.{made-before}
use Rattle.up_claims.proofs.infer.before_query.Goals as goal

pub returns-clause-sorted : goal.returns-clause-sorted
returns-clause-sorted c = (made-before c.args.sys.now c.requires.sys c.in_ok-claims_of_before.field-0 (option_map (λ cubes. cubes.now) c.args.frame) c.args.cube.now c.requires.frame c.requires.cube c.in_ok-claims_of_before.ensures).sorted

pub returns-clause-meaning : goal.returns-clause-meaning
returns-clause-meaning c = (made-before c.args.sys.now c.requires.sys c.in_ok-claims_of_before.field-0 (option_map (λ cubes. cubes.now) c.args.frame) c.args.cube.now c.requires.frame c.requires.cube c.in_ok-claims_of_before.ensures).meaning

pub returns-clause-rises : goal.returns-clause-rises
returns-clause-rises c = (made-before c.args.sys.now c.requires.sys c.in_ok-claims_of_before.field-0 (option_map (λ cubes. cubes.now) c.args.frame) c.args.cube.now c.requires.frame c.requires.cube c.in_ok-claims_of_before.ensures).rises
