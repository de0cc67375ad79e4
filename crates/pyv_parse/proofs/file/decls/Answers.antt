use Rattle.std.proofs.Common.{length, sym, ◌∙◌}
use Rattle.std.proofs.lemmas.Result.{err_from_is_err_and}
use Rattle.pyv_parse.proofs.Declared.{begins, ends, goes_on, fails, none_left, some_left}
use Rattle.pyv_parse.proofs.file.decls.Goals as goal

pub decls-init : goal.decls-init
decls-init c = rw c.new-found.ensures (begins c.args.tokens.now)

pub returns-in_err-next : goal.returns-in_err-next
returns-in_err-next c = record {
  gives =
      let p = err_from_is_err_and c.from_residual.result c.from_residual.ensures.1 in
      rw (p.1, p.2, ← c.decls.invariant) (fails c.decls.found c.decls.rest.now c.in_err-next.field-0.0 (some_left (length c.decls.rest.now) c.decls-test.ensures) c.in_err-next.ensures.gives);
}

pub decls-preserved : goal.decls-preserved
decls-preserved c = rw c.in_ok-push.ensures.ok (goes_on c.decls.found c.decls.rest.now c.in_ok-next.after.now c.in_ok-next.next (some_left (length c.decls.rest.now) c.decls-test.ensures) c.in_ok-next.ensures.gives) ∙ c.decls.invariant

pub returns : goal.returns
returns c = record { gives = sym c.decls.invariant ∙ ends c.decls.found c.decls.rest.now (none_left (length c.decls.rest.now) c.decls-test.ensures) }
