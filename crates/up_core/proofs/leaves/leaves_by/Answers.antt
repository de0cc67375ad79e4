use Rattle.std.proofs.Common.{◌+◌}
use Rattle.std.proofs.lemmas.Option.{slice_get-get_or}
use Rattle.up_core.specs.Telling.{IsLeaveBy}
use Rattle.up_core.proofs.Marked.{leaves-next}
use Rattle.up_core.proofs.leaves.leaves_by.Goals as goal

pub each-preserved : goal.each-preserved
each-preserved c =
    let marks = c.args.marks.now in
    leaves-next marks c.each.leaves c.push.new.self (λ k mark leave. IsLeaveBy c.args.history.now (k + 1) mark leave) c.each.k _ c.in_ok-leave_of.field-0 c.each.invariant
    (slice_get-get_or marks c.each.k _ c.each-test.true) c.in_ok-leave_of.ensures c.in_ok-push.ensures.ok
