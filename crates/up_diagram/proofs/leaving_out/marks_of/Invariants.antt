use Rattle.std.proofs.Common.{take}
use Rattle.up_diagram.specs.Marks.{AreMarks}
use Rattle.up_diagram.proofs.leaving_out.marks_of.Given as goal

-- the variables of the literals before this one are marked
abbrev pub invariant-each : goal.invariant-each
invariant-each l = AreMarks (take l.lit-index l.lits) l.count l.marks.items
