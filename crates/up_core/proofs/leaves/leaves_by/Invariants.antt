use Rattle.std.proofs.Common.{◌+◌, take}
use Rattle.up_core.specs.Mirror.{Pairs}
use Rattle.up_core.specs.Telling.{IsLeaveBy}
use Rattle.up_core.proofs.leaves.leaves_by.Given as goal

-- the marks before this one have their leaves
abbrev pub invariant-each : goal.invariant-each
invariant-each l = Pairs (take l.k l.marks) l.leaves (λ k mark leave. IsLeaveBy l.history (k + 1) mark leave)
