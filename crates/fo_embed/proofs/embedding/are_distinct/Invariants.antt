use Rattle.std.proofs.Common.{take}
use Rattle.fo_embed.specs.Placing.{AreDistinct}
use Rattle.fo_embed.proofs.embedding.are_distinct.Given as goal

-- those before this one are distinct
abbrev pub invariant-each : goal.invariant-each
invariant-each l = AreDistinct (take l.j l.images)
