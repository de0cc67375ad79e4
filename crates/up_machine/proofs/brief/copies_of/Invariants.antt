use Rattle.std.proofs.Common.{◌≡◌, take}
use Rattle.up_machine.proofs.brief.copies_of.Given as goal

-- the cubes before this one are copied
abbrev pub invariant-each : goal.invariant-each
invariant-each l = l.copies ≡ take l.cube-index l.cubes
