use Rattle.std.proofs.Common.{subst, refl}
use Rattle.std.proofs.lemmas.Result.{err_from_is_err_and}
use Rattle.pyv_sorts.specs.Tells.{Fails}
use Rattle.pyv_sorts.proofs.Noted.{unknown_here}
use Rattle.pyv_sorts.proofs.declare.sort_numbers.Goals as goal

pub returns-in_err-sort_number-clause-tells : goal.returns-in_err-sort_number-clause-tells
returns-in_err-sort_number-clause-tells c =
    let p = err_from_is_err_and c.from_residual.result c.from_residual.ensures.1 in
    rw (p.1, p.2) (subst (Fails c.in_err-sort_number.field-0.0) c.each.invariant.told
    (unknown_here c.args.sorts.now c.args.bytes.now c.args.names.now c.each.name-index _ _ c.each-test.true refl c.in_err-sort_number.field-0.0 c.in_err-sort_number.ensures.tells))
