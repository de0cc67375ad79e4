use Rattle.std.proofs.Common.{sym, take, drop, ◌+◌}
use Rattle.std.proofs.lemmas.Result.{err_from_is_err_and}
use Rattle.pyv_meaning.specs.Items.{items_of, item_of}
use Rattle.pyv_sorts.proofs.Meant.{item_fails, all_items}
use Rattle.pyv_sorts.proofs.model.Parts.add_all.Goals as goal

pub returns-in_err-add-clause-fault : goal.returns-in_err-add-clause-fault
returns-in_err-add-clause-fault c =
    let p = err_from_is_err_and c.from_residual.result c.from_residual.ensures.1 in
    let v = c.args.known.now in
    let ds = c.args.decls.now in
    let i = c.each.decl-index in
    rw (p.1, p.2) (item_fails v (items_of v.bytes ds) (items_of v.bytes (take i ds)) (items_of v.bytes (drop (i + 1) ds)) _ (all_items v.bytes ds i _ _ c.each-test.true (sym c.decl-item.is)) c.each.invariant.done.sound c.in_err-add.field-0.0 c.in_err-add.ensures.fault)
