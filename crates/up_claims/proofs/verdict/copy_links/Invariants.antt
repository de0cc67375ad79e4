use Rattle.std.proofs.Common.{◌≡◌, take}
use Rattle.up_claims.proofs.verdict.copy_links.Given as goal

-- the links before this one are copied
abbrev pub invariant-each : goal.invariant-each
invariant-each l = l.copies ≡ take l.item-index l.links
