use Rattle.std.proofs.Common.{◌≡◌, drop}
use Rattle.fo_core.specs.Over.{some_over as some_over_of}
use Rattle.fo_core.proofs.over.some_over.Given as goal

-- the quantifiers from this one on stand
abbrev pub invariant-each : goal.invariant-each
invariant-each l = l.f ≡ some_over_of (drop l.i l.sorts) l.fn.body
