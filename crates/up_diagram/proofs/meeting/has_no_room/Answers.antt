use Rattle.std.proofs.Common.{refl}
use Rattle.up_diagram.proofs.Crowded.{not-enough-elements}
use Rattle.up_diagram.proofs.meeting.has_no_room.Goals as goal

pub returns-then-are_too_many : goal.returns-then-are_too_many
returns-then-are_too_many c is =
    not-enough-elements c.args.trial.now.sig.now c.args.trial.now.w.now c.args.trial.now.copy c.args.trial.now.cube.now.sorts c.args.trial.now.cube.now.lits _
    (rw (c.at.ensures 0, c.as_slice-sorts.ensures, c.as_slice.ensures) at (c.if-are_too_many.ensures refl))
