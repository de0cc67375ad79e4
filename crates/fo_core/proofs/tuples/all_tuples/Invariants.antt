use Rattle.std.proofs.Common.{◌≡◌, drop}
use Rattle.fo_core.specs.Tuples.{all_tuples as all_tuples_of}
use Rattle.fo_core.proofs.tuples.all_tuples.Given as goal

-- the tuples over the sizes from this one on
abbrev pub invariant-each : goal.invariant-each
invariant-each l = l.tuples ≡ all_tuples_of (drop l.i l.sizes)
