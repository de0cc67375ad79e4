use Rattle.std.proofs.Common.{◌≡◌, take}
use Rattle.fo_embed.proofs.map.Map.copy.Given as goal

-- the lists before this one are copied
abbrev pub invariant-each : goal.invariant-each
invariant-each l = l.images ≡ take l.list-index l.list-items
