use Rattle.std.proofs.Common.{◌≡◌, drop}
use Rattle.fo_core.specs.Over.{all_over as all_over_of}
use Rattle.fo_core.proofs.over.all_over.Given as goal

-- the quantifiers from this one on stand
abbrev pub invariant-each : goal.invariant-each
invariant-each l = l.f ≡ all_over_of (drop l.i l.sorts) l.fn.body
