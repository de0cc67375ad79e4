use Rattle.updr_model.specs.OneMeaning.{is_model}
use Rattle.updr_model.specs.Texts.{of_meaning}
use Rattle.updr_model.proofs.reading.meaning_of.Goals as goal

pub returns-in-Ok-clause-model : goal.returns-in-Ok-clause-model
returns-in-Ok-clause-model g c =
    is_model c.args.bytes.now c.in-Ok.elaborated.sys c.in-Ok.elaborated.names
    (record { model = c.args.model.now; tree = c.requires.tree; means = c.in-Ok.ensures.found })

pub returns-in_ok-refusal-in-Err-clause-refused : goal.returns-in_ok-refusal-in-Err-clause-refused
returns-in_ok-refusal-in-Err-clause-refused g c = record {
  telling = c.in_ok-telling-in-Err.telling;
  fault = of_meaning c.args.model.now c.in-Err.fault c.requires.tree c.in-Err.ensures.fault c.in_ok-telling-in-Err.ensures;
  is = c.in_ok-refusal-in-Err.ensures;
}
