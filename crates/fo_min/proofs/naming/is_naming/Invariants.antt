use Rattle.std.proofs.Common.{ℕ, ◌<◌, []}
use Rattle.std.specs.Prelude.{slice_index, slice_index_or}
use Rattle.fo_min.specs.Known.{IsSortNamed}
use Rattle.fo_min.proofs.naming.is_naming.Given as goal

abbrev pub invariant-each : goal.invariant-each
invariant-each l = (t : ℕ) → t < l.s → IsSortNamed (slice_index l.sizes t) (slice_index l.world.sizes t) (slice_index_or l.names t [])
