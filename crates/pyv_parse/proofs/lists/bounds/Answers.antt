use Rattle.std.proofs.Common.{sym, ◌∙◌, arith}
use Rattle.std.proofs.lemmas.Result.{err_from_is_err_and}
use Rattle.pyv_lex.specs.declared.token.Kind.TheVariants as kind
use Rattle.pyv_grammar.specs.Reading.{bound_at, listed, never}
use Rattle.pyv_grammar.proofs.Good.{good_bound}
use Rattle.pyv_parse.specs.Gives.{put_last}
use Rattle.pyv_parse.proofs.Loops.{goes_on, stops, fails, from_none}
use Rattle.pyv_parse.proofs.lists.bounds.Goals as goal

pub loop-found-init : goal.loop-found-init
loop-found-init c = record {
  same = rw c.new-found.ensures (from_none (listed bound_at c.args.tokens.now));
  shorter = omega arith;
}

pub returns-in_err-item-clause-gives : goal.returns-in_err-item-clause-gives
returns-in_err-item-clause-gives c =
    let p = err_from_is_err_and c.from_residual.result c.from_residual.ensures.1 in
    rw (p.1, p.2, ← c.loop-found.invariant.same) (fails put_last never bound_at kind.Comma good_bound.is_strict c.loop-found.found c.loop-found.rest.now c.in_err-item.field-0.0 c.in_err-item.ensures.gives)

pub loop-found-preserved : goal.loop-found-preserved
loop-found-preserved c = record {
  same = rw c.in_ok-push.ensures.ok (goes_on put_last never bound_at kind.Comma good_bound.is_strict c.loop-found.found c.loop-found.rest.now _ _ _ _ c.in_ok-item.ensures.gives c.in-Some.ensures.is) ∙ c.loop-found.invariant.same;
  shorter = omega (arith, c.in_ok-item.ensures.shorter, c.in-Some.ensures.shorter);
}

pub returns-in-None-clause-gives : goal.returns-in-None-clause-gives
returns-in-None-clause-gives c =
    rw c.in_ok-push.ensures.ok (sym c.loop-found.invariant.same ∙ stops put_last never bound_at kind.Comma good_bound.is_strict c.loop-found.found c.loop-found.rest.now _ _ c.in_ok-item.ensures.gives c.in-None.ensures.is)
