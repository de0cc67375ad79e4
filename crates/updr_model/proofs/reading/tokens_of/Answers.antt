use Rattle.updr_model.specs.Texts.{of_tokens}
use Rattle.updr_model.proofs.reading.tokens_of.Goals as goal

pub returns-in_ok-refusal-in-Err-clause-refused : goal.returns-in_ok-refusal-in-Err-clause-refused
returns-in_ok-refusal-in-Err-clause-refused g c = record {
  telling = c.in_ok-telling-in-Err.telling;
  fault = of_tokens c.in-Err.fault c.in-Err.ensures.fault c.in_ok-telling-in-Err.ensures;
  is = c.in_ok-refusal-in-Err.ensures;
}
