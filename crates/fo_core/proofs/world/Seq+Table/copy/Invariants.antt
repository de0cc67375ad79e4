use Rattle.std.proofs.Common.{◌≡◌, take}
use Rattle.fo_core.proofs.world.Seq+Table.copy.Given as goal

-- the elements before this one are copied
abbrev pub invariant-each : goal.invariant-each
invariant-each l = l.copies ≡ take l.item-index l.item-items
