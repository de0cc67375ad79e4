use Rattle.std.proofs.Common.{◌+◌, ◌-◌, ◌∷◌, []}
use Rattle.std.proofs.lemmas.Result.{err_from_is_err_and}
use Rattle.fo_text.proofs.Loops.{list_step, list_ends, list_done}
use Rattle.up_report.specs.Reading.{gathered, leave_line_at, leaves_at}
use Rattle.up_report.proofs.Loops.{leaves_step, leaves_none}
use Rattle.up_report.proofs.leave_reading.read_leaves.Goals as goal

pub returns-in_err-leave : goal.returns-in_err-leave
returns-in_err-leave c =
    let p = err_from_is_err_and c.from_residual-in_err-leave.result c.from_residual-in_err-leave.ensures.1 in
    let sig = c.args.sig.now in
    let names = c.args.names.now in
    let clauses = c.args.clauses in
    let whole = gathered (c.args.first ∷ []) (leaves_at sig names clauses (c.args.last - 1) 2 c.args.bytes.now) in
    let k = leaves_step sig names clauses c.args.last c.each.k c.each.rest.now c.each-test.true in
    rw (p.1, p.2) (list_ends c.in_err-leave.field-0.0 c.each.leaves (leave_line_at sig names clauses (c.each.k + 1) c.each.rest.now) (λ l. leaves_at sig names clauses (c.args.last - (c.each.k + 1)) (c.each.k + 1 + 1) l) (leaves_at sig names clauses (c.args.last - c.each.k) (c.each.k + 1) c.each.rest.now) whole k c.in_err-leave.ensures c.each.invariant)

pub each-preserved : goal.each-preserved
each-preserved c =
    let sig = c.args.sig.now in
    let names = c.args.names.now in
    let clauses = c.args.clauses in
    let whole = gathered (c.args.first ∷ []) (leaves_at sig names clauses (c.args.last - 1) 2 c.args.bytes.now) in
    let k = leaves_step sig names clauses c.args.last c.each.k c.each.rest.now c.each-test.true in
    rw c.in_ok-push-2.ensures.ok (list_step c.each.leaves (leave_line_at sig names clauses (c.each.k + 1) c.each.rest.now) (λ l. leaves_at sig names clauses (c.args.last - (c.each.k + 1)) (c.each.k + 1 + 1) l) c.in_ok-leave.leave c.in_ok-leave.after.now (leaves_at sig names clauses (c.args.last - c.each.k) (c.each.k + 1) c.each.rest.now) whole k c.in_ok-leave.ensures c.each.invariant)

pub returns : goal.returns
returns c =
    let sig = c.args.sig.now in
    let names = c.args.names.now in
    let clauses = c.args.clauses in
    let whole = gathered (c.args.first ∷ []) (leaves_at sig names clauses (c.args.last - 1) 2 c.args.bytes.now) in
    list_done c.each.leaves c.each.rest.now (leaves_at sig names clauses (c.args.last - c.each.k) (c.each.k + 1) c.each.rest.now) whole (leaves_none sig names clauses c.args.last c.each.k c.each.rest.now c.each-test.false) c.each.invariant
