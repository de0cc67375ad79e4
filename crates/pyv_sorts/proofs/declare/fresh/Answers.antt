use Rattle.std.proofs.Common.{sym, ◌∙◌}
use Rattle.pyv_sorts.proofs.Noted.{fresh_not, fresh_twice, fresh_new}
use Rattle.pyv_meaning.specs.View.{name_of}
use Rattle.pyv_sorts.proofs.declare.fresh.Goals as goal

pub returns-then-not-is_name-clause-tells : goal.returns-then-not-is_name-clause-tells
returns-then-not-is_name-clause-tells c = λ ns e.
    fresh_not c.args.known.now (name_of c.args.bytes.now c.args.name) c.word-word.result.now c.is_name.result c.word-word.ensures c.is_name.ensures ns e c.if-not-is_name.true

pub returns-then-is_some-clause-tells : goal.returns-then-is_some-clause-tells
returns-then-is_some-clause-tells c = λ ns e.
    fresh_twice c.args.known.now (name_of c.args.bytes.now c.args.name) c.word-word.result.now c.is_name.result c.word-word.ensures c.is_name.ensures ns e c.if-not-is_name.false c.number.result c.number.ensures.is (sym c.is_some.ensures ∙ c.if-is_some.true)

pub returns-clause-tells : goal.returns-clause-tells
returns-clause-tells c = λ ns e.
    fresh_new c.args.known.now (name_of c.args.bytes.now c.args.name) c.word-word.result.now c.is_name.result c.word-word.ensures c.is_name.ensures ns e c.if-not-is_name.false c.number.result c.number.ensures.is (sym c.is_some.ensures ∙ c.if-is_some.false)
