use Rattle.pyv_meaning.proofs.Spelt.{spelt_names, few_declarations}
use Rattle.pyv_meaning.proofs.laws.spelt_names_are_not_reserved.Goals as goal

pub returns-clause-names : goal.returns-clause-names
returns-clause-names c = λ bytes tokens limits m. spelt_names bytes limits m.decls tokens

pub returns-clause-few : goal.returns-clause-few
returns-clause-few c = λ tokens limits m. few_declarations limits m.decls tokens
