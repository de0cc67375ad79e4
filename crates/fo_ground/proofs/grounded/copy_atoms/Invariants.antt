use Rattle.std.proofs.Common.{◌≡◌, take}
use Rattle.fo_ground.proofs.grounded.copy_atoms.Given as goal

abbrev pub invariant-each : goal.invariant-each
invariant-each l = l.copies.items ≡ take l.atom-index l.atoms
