use Rattle.std.proofs.Common.{sym, arith}
use Rattle.fo_ground.proofs.FactLemmas.{same_var-ordered}
use Rattle.fo_ground.proofs.place.ordered.Goals as goal

pub overflow_add-result : goal.overflow_add-result
overflow_add-result c =
    let n = c.requires.sorted in
    let lt = c.requires.ready.same n.0 c.args.low c.args.high n.1 n.2 in
    let few = c.requires.ready.few in
    let e = same_var-ordered c.args.u.now c.args.lay.now c.args.low c.args.high c.requires.order in
    rw (c.at.ensures 0) (omega (arith, lt, few, e))

pub returns : goal.returns
returns c = rw (c.at.ensures 0) (sym (same_var-ordered c.args.u.now c.args.lay.now c.args.low c.args.high c.requires.order))
