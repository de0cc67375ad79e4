use Rattle.std.specs.Prelude.{⊤}
use Rattle.up_diagram.proofs.meeting.has_no_room.Given as goal

-- nothing is said of the sorts before this one
abbrev pub invariant-each : goal.invariant-each
invariant-each l = ⊤
