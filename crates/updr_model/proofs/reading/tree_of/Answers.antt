use Rattle.updr_model.specs.Texts.{of_tree}
use Rattle.updr_model.proofs.reading.tree_of.Goals as goal

pub returns-in_ok-refusal-in-Err-clause-refused : goal.returns-in_ok-refusal-in-Err-clause-refused
returns-in_ok-refusal-in-Err-clause-refused g c = record {
  telling = c.in_ok-telling-in-Err.telling;
  fault = of_tree c.args.tokens.now c.in-Err.fault c.requires.tokens c.in-Err.ensures.fault c.in_ok-telling-in-Err.ensures;
  is = c.in_ok-refusal-in-Err.ensures;
}
