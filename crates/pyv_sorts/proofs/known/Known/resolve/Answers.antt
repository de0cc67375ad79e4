use Rattle.std.proofs.Common.{◌≡◌, sym, ap, ◌∙◌}
use Rattle.pyv_meaning.specs.Scope.{number as number_of}
use Rattle.pyv_sorts.specs.Vocabulary.{Vocabulary}
use Rattle.pyv_sorts.proofs.Resolving.{to_variable, to_symbol, to_unknown}
use Rattle.pyv_sorts.proofs.known.Known.resolve.Goals as goal

pub returns-in-Some-clause-is : goal.returns-in-Some-clause-is
returns-in-Some-clause-is c = sym (to_variable c.args.self.now.names c.args.scope.now c.args.word.now c.in-Some.binder c.in-Some.level (sym c.in-Some.ensures))

pub returns-in-Some-number-clause-is : goal.returns-in-Some-number-clause-is
returns-in-Some-number-clause-is c =
    let n = c.in-Some-number.ensures.is ∙ ap (λ (v : Vocabulary). number_of v.names.symbols c.args.word.now) c.self.view_is in
    sym (to_symbol c.args.self.now.names c.args.scope.now c.args.word.now c.in-Some-number.number (sym c.in-None.ensures) (sym n))

pub returns-in-None-number-clause-is : goal.returns-in-None-number-clause-is
returns-in-None-number-clause-is c =
    let n = c.in-None-number.ensures.is ∙ ap (λ (v : Vocabulary). number_of v.names.symbols c.args.word.now) c.self.view_is in
    sym (to_unknown c.args.self.now.names c.args.scope.now c.args.word.now (sym c.in-None.ensures) (sym n))
