use Rattle.std.proofs.Common.{subst, refl}
use Rattle.std.proofs.lemmas.Result.{err_from_is_err_and}
use Rattle.pyv_sorts.specs.Tells.{Fails}
use Rattle.pyv_sorts.proofs.Meant.{mutable_fails}
use Rattle.pyv_sorts.proofs.model.modified.Goals as goal

pub returns-in_err-mutable_symbol-clause-tells : goal.returns-in_err-mutable_symbol-clause-tells
returns-in_err-mutable_symbol-clause-tells c =
    let p = err_from_is_err_and c.from_residual.result c.from_residual.ensures.1 in
    let v = c.args.known.now in
    rw (p.1, p.2) (subst (Fails c.in_err-mutable_symbol.field-0.0) c.each.invariant.told
    (mutable_fails v.names v.sig v.bytes c.args.names.now c.each.name-index _ _ c.each-test.true refl c.in_err-mutable_symbol.field-0.0 c.in_err-mutable_symbol.ensures.tells))
