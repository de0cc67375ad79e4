use Rattle.std.proofs.Common.{ℕ, ◌<◌}
use Rattle.std.specs.Prelude.{slice_index}
use Rattle.fo_min.proofs.naming.is_within.Given as goal

abbrev pub invariant-each : goal.invariant-each
invariant-each l = (x : ℕ) → x < l.x → slice_index l.own x < l.most
