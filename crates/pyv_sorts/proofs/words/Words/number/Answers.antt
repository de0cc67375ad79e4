use Rattle.std.proofs.Common.{◌≡◌, sym, ◌∙◌, ap}
use Rattle.pyv_meaning.specs.Scope.{number as number_of}
use Rattle.pyv_sorts.proofs.Wording.{number_position}
use Rattle.pyv_sorts.proofs.words.Words.number.Goals as goal

pub returns-in-Some-clause-is : goal.returns-in-Some-clause-is
returns-in-Some-clause-is c = c.in-Some.ensures.index ∙ number_position c.self.inside.set.keys c.args.word.now ∙ ap (λ ws. number_of ws c.args.word.now) c.self.view_is

pub returns-in-None-clause-is : goal.returns-in-None-clause-is
returns-in-None-clause-is c = c.in-None.ensures.index ∙ number_position c.self.inside.set.keys c.args.word.now ∙ ap (λ ws. number_of ws c.args.word.now) c.self.view_is
