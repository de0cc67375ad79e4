use Rattle.std.proofs.Common.{refl}
use Rattle.up_diagram.proofs.Crowded.{not-enough-images}
use Rattle.up_diagram.proofs.covering.has_no_room.Goals as goal

pub returns-then-are_too_many : goal.returns-then-are_too_many
returns-then-are_too_many c is =
    not-enough-images c.args.c.now.lits c.args.c.now.sorts (rw c.as_slice.ensures at (c.if-not-are_proper.ensures refl)) c.args.d.now.sorts c.args.d.now.lits _
    (rw (c.count_of-room.ensures, c.as_slice-sorts.ensures, c.as_slice-in-each.ensures, c.as_slice-in-each-2.ensures) at (c.if-are_too_many.ensures refl))
