use Rattle.std.proofs.Common.{sym, ap, ◌∙◌, rules}
use denote.Enum.Bare.{same_true, same_false}
use Rattle.pyv_lex.specs.contracts.token.Kind.{the_type}
use Rattle.pyv_grammar.specs.Reading.{eat}
use Rattle.pyv_grammar.proofs.Eat.{eat-here, eat-other}
use Rattle.pyv_parse.proofs.reader.eat.Goals as goal

pub returns-then-eq-clause-is : goal.returns-then-eq-clause-is
returns-then-eq-clause-is c =
    ap (eat c.args.kind) c.in_ok-token.ensures.cases.0 ∙ eat-here c.args.kind c.in_ok-token.token.now c.in_ok-token.rest.now (same_true the_type (search rules) _ _ (sym c.eq.ensures ∙ c.if-eq.true))

pub returns-else-eq-clause-is : goal.returns-else-eq-clause-is
returns-else-eq-clause-is c =
    ap (eat c.args.kind) c.in_ok-token.ensures.cases.0 ∙ eat-other c.args.kind c.in_ok-token.token.now c.in_ok-token.rest.now (same_false the_type _ _ (sym c.eq.ensures ∙ c.if-eq.false))
