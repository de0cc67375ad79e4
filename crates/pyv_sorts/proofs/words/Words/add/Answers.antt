use Rattle.std.proofs.Common.{◌≡◌, sym, ◌∙◌, ap}
use Rattle.pyv_sorts.specs.Lists.{added}
use Rattle.pyv_sorts.proofs.Wording.{keys_added, number_added}
use Rattle.pyv_sorts.proofs.words.Words.add.Goals as goal

pub returns-clause-added : goal.returns-clause-added
returns-clause-added c = keys_added c.self.inside.set.keys c.insert_full.new.self.keys c.args.word c.in_ok-number.ensures.keys ∙ ap (λ ws. added ws c.args.word.now) c.self.view_is

pub returns-clause-is : goal.returns-clause-is
returns-clause-is c = number_added c.self.inside.set.keys c.insert_full.new.self.keys c.args.word c.in_ok-number.number c.in_ok-number.ensures.keys c.in_ok-number.ensures.index
