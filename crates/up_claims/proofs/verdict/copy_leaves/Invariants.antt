use Rattle.std.proofs.Common.{◌≡◌, take}
use Rattle.up_claims.proofs.verdict.copy_leaves.Given as goal

-- the steps before this one are copied
abbrev pub invariant-each : goal.invariant-each
invariant-each l = l.copies ≡ take l.item-index l.leaves
