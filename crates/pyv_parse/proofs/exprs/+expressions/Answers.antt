use Rattle.std.proofs.Common.{true, false, refl, sym, ap, ◌∙◌, arith}
use Rattle.std.proofs.lemmas.Result.{err_from_is_err_and}
use Rattle.pyv_grammar.specs.Grammar.{Exprs}
use Rattle.pyv_grammar.specs.Reading.{read, skip, never, ends_open, found}
use Rattle.pyv_lex.specs.declared.token.Kind.{Kind}
use Rattle.pyv_lex.specs.declared.token.Kind.TheVariants as kind
use Rattle.pyv_grammar.specs.declared.tree.Expr.TheVariants as expr
use Rattle.pyv_grammar.proofs.Good.{good_read}
use Rattle.pyv_parse.specs.Gives.{put_member, operand_of, sign_of, node_for}
use Rattle.pyv_parse.proofs.Loops.{goes_on, stops, fails, fails_then}
use Rattle.pyv_parse.proofs.Gathered.{made_of, none_made, distinct_made, closed_by, not_closed, none_listed, many}
use Rattle.pyv_parse.proofs.Steps.{at_bang, at_forall, at_exists, at_if, at_word, at_new, at_distinct, at_bracket, at_implies, above_low}
use Rattle.pyv_parse.proofs.exprs.+expressions.Goals as goal

pub unary-returns-in-Some-clause-gives : goal.unary-returns-in-Some-clause-gives
unary-returns-in-Some-clause-gives t c = rw (at_bang c.args.room c.args.height c.in_ok-room.room c.in_ok-room.ensures.ok c.args.tokens.now _ _ c.in-Some.ensures.is) c.negated.ensures.gives

pub unary-returns-in-Some-eat-clause-gives : goal.unary-returns-in-Some-eat-clause-gives
unary-returns-in-Some-eat-clause-gives t c = rw (at_forall c.args.room c.args.height c.in_ok-room-2.room c.in_ok-room-2.ensures.ok c.args.tokens.now _ _ c.in_default.ensures.is c.in-Some-eat.ensures.is) c.binding.ensures.gives

pub unary-returns-in-Some-eat-2-clause-gives : goal.unary-returns-in-Some-eat-2-clause-gives
unary-returns-in-Some-eat-2-clause-gives t c = rw (at_exists c.args.room c.args.height c.in_ok-room-3.room c.in_ok-room-3.ensures.ok c.args.tokens.now _ _ c.in_default.ensures.is c.in_default-eat.ensures.is c.in-Some-eat-2.ensures.is) c.binding-in-Some-eat-2.ensures.gives

pub unary-returns-in-Some-eat-3-clause-gives : goal.unary-returns-in-Some-eat-3-clause-gives
unary-returns-in-Some-eat-3-clause-gives t c =
    rw (at_if c.args.room c.args.height c.in_ok-room-4.room c.in_ok-lower.lower c.in_ok-room-4.ensures.ok c.in_ok-lower.ensures.ok c.args.tokens.now _ _ c.in_default.ensures.is c.in_default-eat.ensures.is c.in_default-eat-2.ensures.is c.in-Some-eat-3.ensures.is) c.chosen.ensures.gives

pub atom-returns-in-Some-eat-3-clause-gives : goal.atom-returns-in-Some-eat-3-clause-gives
atom-returns-in-Some-eat-3-clause-gives t c =
    rw (at_new c.args.room c.args.height c.in_ok-room.room c.in_ok-room.ensures.ok c.args.tokens.now _ _ c.in_default.ensures.is c.in_default-eat.ensures.is c.in_default-eat-2.ensures.is c.in-Some-eat-3.ensures.is) c.changed.ensures.gives

pub atom-returns-in-Some-eat-4-clause-gives : goal.atom-returns-in-Some-eat-4-clause-gives
atom-returns-in-Some-eat-4-clause-gives t c =
    rw (at_distinct c.args.room c.args.height c.in_ok-room-2.room c.in_ok-room-2.ensures.ok c.args.tokens.now _ _ c.in_default.ensures.is c.in_default-eat.ensures.is c.in_default-eat-2.ensures.is c.in_default-eat-3.ensures.is c.in-Some-eat-4.ensures.is) c.distinct.ensures.gives

pub atom-returns-in-Some-eat-5-clause-gives : goal.atom-returns-in-Some-eat-5-clause-gives
atom-returns-in-Some-eat-5-clause-gives t c =
    rw (at_bracket c.args.room c.args.height c.in_ok-room-3.room c.in_ok-room-3.ensures.ok c.args.tokens.now _ _ c.in_default.ensures.is c.in_default-eat.ensures.is c.in_default-eat-2.ensures.is c.in_default-eat-3.ensures.is c.in_default-eat-4.ensures.is c.in-Some-eat-5.ensures.is) c.bracketed.ensures.gives

pub named-returns-clause-gives : goal.named-returns-clause-gives
named-returns-clause-gives t c =
    rw c.closed-2.ensures
    (at_word c.args.room c.args.height c.in_ok-room.room c.in_ok-room.ensures.ok c.args.tokens.now _ c.args.word _ c.in-Some.ensures.is c.in_default-eat.ensures.is
    ∙ made_of (λ xs i. found (expr.Name c.args.word.span true xs) false i) c.in_ok-members.members _ _ c.in_ok-members.ensures.gives)

pub named-returns-in_err-members-clause-gives : goal.named-returns-in_err-members-clause-gives
named-returns-in_err-members-clause-gives t c =
    let p = err_from_is_err_and c.from_residual-in_err-members.result c.from_residual-in_err-members.ensures.1 in
    rw (p.1, p.2, at_word c.args.room c.args.height c.in_ok-room.room c.in_ok-room.ensures.ok c.args.tokens.now _ c.args.word _ c.in-Some.ensures.is c.in_default-eat.ensures.is)
    (none_made _ c.in_err-members.field-0.0 _ c.in_err-members.ensures.gives)

pub without_iff-returns-clause-gives : goal.without_iff-returns-clause-gives
without_iff-returns-clause-gives t c =
    rw c.in_ok-implication.ensures.made
    (at_implies c.args.room c.args.height c.in_ok-room.room c.in_ok-room.ensures.ok c.args.tokens.now _ _ _ c.in_ok-premise.premise c.in_ok-premise.ensures.gives c.in-Some.ensures.is ∙ rw c.in_ok-conclusion.ensures.gives refl)

pub without_iff-returns-in_err-conclusion-clause-gives : goal.without_iff-returns-in_err-conclusion-clause-gives
without_iff-returns-in_err-conclusion-clause-gives t c =
    let p = err_from_is_err_and c.from_residual-in_err-conclusion.result c.from_residual-in_err-conclusion.ensures.1 in
    rw (p.1, p.2, at_implies c.args.room c.args.height c.in_ok-room.room c.in_ok-room.ensures.ok c.args.tokens.now _ _ _ c.in_ok-premise.premise c.in_ok-premise.ensures.gives c.in-Some.ensures.is)
    (fails_then _ c.in_err-conclusion.field-0.0 _ c.in_err-conclusion.ensures.gives)

pub distinct-returns-clause-gives : goal.distinct-returns-clause-gives
distinct-returns-clause-gives t c =
    rw c.closed.ensures (distinct_made (read c.args.room c.args.height Exprs) c.args.word _ c.args.tokens.now _ _ c.in_ok-members.members c.in_ok-rest.ensures.gives c.in_ok-members.ensures.gives)

pub joined-returns-clause-gives : goal.joined-returns-clause-gives
joined-returns-clause-gives t c =
    let e = read c.args.room c.args.height (operand_of c.args.connective) in
    let front = c.skip-front.ensures.is ∙ ap (λ (k : Kind). skip k c.args.tokens.now) c.sign.ensures in
    rw c.join.ensures
    (many e (sign_of c.args.connective) (node_for c.args.connective) c.args.tokens.now _ _ _ c.in-Some.token c.in_ok-first.first c.in_ok-members.members (ap e (sym front) ∙ c.in_ok-first.ensures.gives)
    (rw c.sign-2.ensures at c.in-Some.ensures.is) (rw (c.in_ok-put.ensures.ok, c.no_members-members.ensures) at c.in_ok-members.ensures.gives))

pub arguments-returns-in_err-found-clause-gives : goal.arguments-returns-in_err-found-clause-gives
arguments-returns-in_err-found-clause-gives t c =
    let e = read c.args.room c.args.height Exprs in
    let p = err_from_is_err_and c.from_residual.result c.from_residual.ensures.1 in
    rw (p.1, p.2) (none_listed e c.args.tokens.now c.in_err-found.field-0.0
    (rw (← c.loop-members.invariant.same) (fails put_member never e kind.Comma (good_read c.args.room c.args.height Exprs).is_strict c.loop-members.members c.loop-members.rest.now c.in_err-found.field-0.0 c.in_err-found.ensures.gives)))

pub arguments-loop-members-preserved : goal.arguments-loop-members-preserved
arguments-loop-members-preserved t c = record {
  same = rw c.in_ok-put.ensures.ok (goes_on put_member never (read c.args.room c.args.height Exprs) kind.Comma (good_read c.args.room c.args.height Exprs).is_strict c.loop-members.members c.loop-members.rest.now _ _ _ _ c.in_ok-found.ensures.gives c.in-Some.ensures.is)
      ∙ c.loop-members.invariant.same;
  shorter = omega (arith, c.in_ok-found.ensures.within, c.in-Some.ensures.shorter);
  low = rw c.in_ok-put.ensures.ok (omega (arith, c.in_ok-found.ensures.within, c.loop-members.invariant.low));
}

pub arguments-returns-in_err-end-in-None-clause-gives : goal.arguments-returns-in_err-end-in-None-clause-gives
arguments-returns-in_err-end-in-None-clause-gives t c =
    let e = read c.args.room c.args.height Exprs in
    let p = err_from_is_err_and c.from_residual-in_err-end-in-None.result c.from_residual-in_err-end-in-None.ensures.1 in
    rw (p.1, p.2) (not_closed e c.args.tokens.now _ c.in_err-end-in-None.field-0.0 c.put.new.members
    (rw c.in_ok-put.ensures.ok (sym c.loop-members.invariant.same ∙ stops put_member never e kind.Comma (good_read c.args.room c.args.height Exprs).is_strict c.loop-members.members c.loop-members.rest.now _ _ c.in_ok-found.ensures.gives c.in-None.ensures.is))
    c.in_err-end-in-None.ensures.gives)

pub arguments-returns-in-None-clause-gives : goal.arguments-returns-in-None-clause-gives
arguments-returns-in-None-clause-gives t c =
    let e = read c.args.room c.args.height Exprs in
    closed_by e c.args.tokens.now _ _ _ c.put.new.members
    (rw c.in_ok-put.ensures.ok (sym c.loop-members.invariant.same ∙ stops put_member never e kind.Comma (good_read c.args.room c.args.height Exprs).is_strict c.loop-members.members c.loop-members.rest.now _ _ c.in_ok-found.ensures.gives c.in-None.ensures.is))
    c.in_ok-end-in-None.ensures.gives

pub operands-returns-in_err-found-clause-gives : goal.operands-returns-in_err-found-clause-gives
operands-returns-in_err-found-clause-gives t c =
    let l = operand_of c.args.connective in
    let e = read c.args.room c.args.height l in
    let k = sign_of c.args.connective in
    let p = err_from_is_err_and c.from_residual.result c.from_residual.ensures.1 in
    rw (p.1, p.2, ← c.loop-members.invariant.same) (fails put_member ends_open e k (good_read c.args.room c.args.height l).is_strict c.loop-members.members c.loop-members.rest.now c.in_err-found.field-0.0 c.in_err-found.ensures.gives)

pub operands-loop-members-preserved : goal.operands-loop-members-preserved
operands-loop-members-preserved t c =
    let l = operand_of c.args.connective in
    let e = read c.args.room c.args.height l in
    let k = sign_of c.args.connective in
    record {
      same = rw c.in_ok-put.ensures.ok (goes_on put_member ends_open e k (good_read c.args.room c.args.height l).is_strict c.loop-members.members c.loop-members.rest.now _ _ _ c.in_ok-found.found c.in_ok-found.ensures.gives (rw c.sign.ensures at c.in-Some.ensures.is)) ∙ c.loop-members.invariant.same;
      shorter = omega (arith, c.in_ok-found.ensures.within, c.in-Some.ensures.shorter);
      low = rw c.in_ok-put.ensures.ok (omega (arith, c.in_ok-found.ensures.within, c.loop-members.invariant.low));
    }

pub operands-returns-in-None-clause-gives : goal.operands-returns-in-None-clause-gives
operands-returns-in-None-clause-gives t c =
    let l = operand_of c.args.connective in
    let e = read c.args.room c.args.height l in
    let k = sign_of c.args.connective in
    rw c.in_ok-put.ensures.ok (sym c.loop-members.invariant.same ∙ stops put_member ends_open e k (good_read c.args.room c.args.height l).is_strict c.loop-members.members c.loop-members.rest.now _ c.in_ok-found.found c.in_ok-found.ensures.gives (rw c.sign.ensures at c.in-None.ensures.is))

-- heights

pub without_iff-returns-clause-within : goal.without_iff-returns-clause-within
without_iff-returns-clause-within t c =
    rw c.in_ok-implication.ensures.made
    (omega (arith, c.in_ok-premise.ensures.within, c.in-Some.ensures.shorter, c.in_ok-conclusion.ensures.within), omega (arith, c.in_ok-premise.ensures.within, c.in_ok-conclusion.ensures.within))

pub expr-equivalence-requires : goal.expr-equivalence-requires
expr-equivalence-requires t c = omega (arith, c.in_ok-lower.ensures.ok, c.in_ok-right.ensures.within)

pub expr-returns-clause-within : goal.expr-returns-clause-within
expr-returns-clause-within t c =
    rw c.in_ok-equivalence.ensures.made
    (omega (arith, c.in_ok-left.ensures.within, c.in-Some.ensures.shorter, c.in_ok-right.ensures.within), omega (arith, c.in_ok-lower.ensures.ok, c.in_ok-right.ensures.within))

pub comparison-returns-in-Some-clause-within : goal.comparison-returns-in-Some-clause-within
comparison-returns-in-Some-clause-within t c =
    rw c.in_ok-equality.ensures.made
    (omega (arith, c.in_ok-left.ensures.within, c.in-Some.ensures.shorter, c.in_ok-right.ensures.within), omega (arith, c.in_ok-left.ensures.within, c.in_ok-right.ensures.within))

pub comparison-returns-in-Some-eat-clause-within : goal.comparison-returns-in-Some-eat-clause-within
comparison-returns-in-Some-eat-clause-within t c =
    rw c.in_ok-inequality.ensures.made
    (omega (arith, c.in_ok-left.ensures.within, c.in-Some-eat.ensures.shorter, c.in_ok-right-2.ensures.within), omega (arith, c.in_ok-left.ensures.within, c.in_ok-right-2.ensures.within))

pub chosen-conditional-requires : goal.chosen-conditional-requires
chosen-conditional-requires t c =
    let low = above_low c.in_ok-condition.condition.height c.in_ok-with.with.height c.in_ok-without.without.height c.args.lower c.in_ok-condition.ensures.within.1 c.in_ok-with.ensures.within.1 c.in_ok-without.ensures.within.1 in
    omega (arith, low, c.requires)

pub chosen-returns-clause-within : goal.chosen-returns-clause-within
chosen-returns-clause-within t c =
    rw c.in_ok-found.ensures.made (
      omega (arith, c.in_ok-condition.ensures.within, c.in_ok-with.ensures.within, c.in_ok-without.ensures.within),
      above_low c.in_ok-condition.condition.height c.in_ok-with.with.height c.in_ok-without.without.height c.args.lower c.in_ok-condition.ensures.within.1 c.in_ok-with.ensures.within.1 c.in_ok-without.ensures.within.1,
    )
